-- How many elements are sent of each leaf.
use Rattle.std.specs.Prelude.{◌≡◌, ℕ, ◌+◌, List, [], ◌∷◌, ◌++◌, length, map, nat_lt, if◌then◌else◌, Option, Some, option_and_then, slice_get}
use Rattle.std.specs.List.{position_from}
use Rattle.std.specs.Option.{option_map_or}
use Rattle.dap_types.specs.Limits.{most_elements, most_text}
use Rattle.dap_types.specs.Model.{Member, scalar, array, structure, grid, sequence, Members, no_members, member, sizes, product}
use Rattle.dap_model.specs.Body.{too_large}
use Rattle.dap_model.specs.Dds.{dds}
use Rattle.dap_model.specs.Filter.{Marks, constrained, counted}
use Rattle.netcdf_source.specs.Mapping.{element_dimensions, is_empty, array_of, dataset_of, leaves_from}
use Rattle.netcdf_source.specs.declared.header.Contents.{Contents}
use Rattle.netcdf_source.specs.declared.header.Variable.{Variable}

-- the elements of each leaf of a member
abbrev mutual
  pub member_counts : Member → List ℕ
  member_counts (scalar column) = 1 ∷ []
  member_counts (array a) = product (sizes a) ∷ []
  member_counts (structure name parts) = all_counts parts
  member_counts (grid name a maps) = map (λ b. product (sizes b)) (a ∷ maps)
  member_counts (sequence name columns) = map (λ column. 1) columns

  pub all_counts : Members → List ℕ
  all_counts no_members = []
  all_counts (member m ms) = member_counts m ++ all_counts ms

-- the place of the first count that is too large, where the first one has that place
abbrev pub first_large : ℕ → List ℕ → Option ℕ
first_large n counts = position_from (λ count. nat_lt most_elements count) n counts

-- of the variable of leaf n, where it is marked
abbrev pub variable_counts : Contents → Marks → ℕ → Variable → List ℕ
variable_counts c marks n v = option_map_or (λ slabs. (if is_empty (element_dimensions c v) then 1 else product (sizes (counted slabs (array_of c v)))) ∷ []) (marks n) []

-- of member n, which is that variable's leaf, or no leaf
abbrev pub slot_counts : Contents → Marks → ℕ → Option ℕ → List ℕ
slot_counts c marks n slot = option_map_or (variable_counts c marks n) (option_and_then (slice_get c.variables) slot) []

unfoldable pub slots_counts : Contents → Marks → ℕ → List (Option ℕ) → List ℕ
slots_counts c marks n [] = []
slots_counts c marks n (slot ∷ slots) = slot_counts c marks n slot ++ slots_counts c marks (n + 1) slots

-- why a netCDF dataset is not sent, by its marked leaves
abbrev pub CdfTooLarge : Type 0
CdfTooLarge = (c : Contents) (file_name : List ℕ) (marks : Marks) →
    too_large (constrained marks (dataset_of c file_name))
    ≡ (if nat_lt most_text (length (dds (constrained marks (dataset_of c file_name)))) then Some 0 else first_large 1 (slots_counts c marks 1 (leaves_from c 0 c.variables)))
