-- What is sent of joined files: the leaves by number, each that of its variable, where it is marked (DAP 2.0,
-- DODS).
use Rattle.std.specs.Prelude.{◌≡◌, ℕ, ◌+◌, List, [], ◌∷◌, ◌++◌, Option, slice_get, if◌then◌else◌}
use Rattle.std.specs.Option.{option_map_or}
use Rattle.dap_types.specs.Model.{Tree}
use Rattle.dap_model.specs.Filter.{Marks, Keeps, cut, constrained, constrained_trees}
use Rattle.dap_model.specs.Fits.{values_in}
use Rattle.dap_model.specs.Xdr.{Field, scalar_fields, array_fields, bytes_of, xdr}
use Rattle.netcdf_source.specs.Mapping.{base_of, element_dimensions, is_empty, dataset_of, leaves_from}
use Rattle.netcdf_source.specs.declared.header.Contents.{Contents}
use Rattle.netcdf_source.specs.declared.header.Variable.{Variable}
use Rattle.join_source.specs.Trees.{trees_from}

-- of the variable of leaf n, which has these values
abbrev pub variable_sent : Contents → Marks → Tree → ℕ → Variable → List Field
variable_sent c marks t n v =
    option_map_or (λ slabs. if is_empty (element_dimensions c v) then scalar_fields (base_of v.external_type) t else array_fields (base_of v.external_type) (values_in (cut slabs t))) (marks n) []

-- of variable k, as leaf n
abbrev pub place_sent : Contents → (ℕ → Tree) → Marks → ℕ → ℕ → List Field
place_sent c tree marks n k = option_map_or (variable_sent c marks (tree k) n) (slice_get c.variables k) []

-- of member n, which is that variable's leaf, or no leaf
abbrev pub slot_sent : Contents → (ℕ → Tree) → Marks → ℕ → Option ℕ → List Field
slot_sent c tree marks n slot = option_map_or (place_sent c tree marks n) slot []

abbrev pub slots_sent : Contents → (ℕ → Tree) → Marks → ℕ → List (Option ℕ) → List Field
slots_sent c tree marks n [] = []
slots_sent c tree marks n (slot ∷ slots) = slot_sent c tree marks n slot ++ slots_sent c tree marks (n + 1) slots

-- the XDR of what a constraint leaves of a dataset is that of its marked leaves, by number, whatever the values
-- of each variable
abbrev pub LeavesAreSent : Type 0
LeavesAreSent = (c : Contents) (file_name : List ℕ) (tree : ℕ → Tree) (marks : Marks) (keeps : Keeps) →
    xdr (constrained marks (dataset_of c file_name)) (constrained_trees marks keeps (dataset_of c file_name) (trees_from c tree 0 c.variables))
    ≡ bytes_of (slots_sent c tree marks 1 (leaves_from c 0 c.variables))
