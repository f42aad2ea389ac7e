-- A stored file that holds a data response (DAP 2.0, DODS), and the dataset that it is served as: that
-- of the response, its names spelled as constraints spell them (DAP 2.0, constraint expressions:
-- escapes in identifiers), under the name of the file. The limit is this project's.
use Rattle.std.specs.Prelude.{◌≡◌, ℕ, ◌≤◌, List, drop, length, map, Option, None}
use Rattle.std.specs.List.{list_any, position_from}
use Rattle.std.specs.Str.{bytes_eq}
use Rattle.dap_types.specs.Limits.{most_saved}
use Rattle.das_text.specs.Model.{Attributes, Entries, container, entry, no_entries}
use Rattle.dap_types.specs.Model.{Member, scalar, array, structure, grid, sequence, Members, no_members, member, Dataset, Tree, name_of}
use Rattle.dap_types.specs.Names.{constraint_id}
use Rattle.dap_types.specs.View.{dataset_view}
use Rattle.dap_types.specs.WellFormed.{places_of}
use Rattle.dap_types.specs.declared.declarations.ArrayDecl.{ArrayDecl}
use Rattle.dap_types.specs.declared.declarations.Column.{Column}
use Rattle.dap_model.specs.Body.{IsBody}
use Rattle.dap_model.specs.Xdr.{Spells}
use Rattle.file_names.specs.Names.{dataset_name}
use Rattle.saved_source.specs.declared.saved.Saved.{Saved}

abbrev pub renamed_column : Column → Column
renamed_column c = record c { name = constraint_id c.name }

abbrev pub renamed_array : ArrayDecl → ArrayDecl
renamed_array a = record a { name = constraint_id a.name }

-- a variable and its parts under the names of a constraint
abbrev mutual
  pub renamed : Member → Member
  renamed (scalar column) = scalar (renamed_column column)
  renamed (array a) = array (renamed_array a)
  renamed (structure name parts) = structure (constraint_id name) (renamed_all parts)
  renamed (grid name a maps) = grid (constraint_id name) (renamed_array a) (map renamed_array maps)
  renamed (sequence name columns) = sequence (constraint_id name) (map renamed_column columns)

  pub renamed_all : Members → Members
  renamed_all no_members = no_members
  renamed_all (member m ms) = member (renamed m) (renamed_all ms)

-- the dataset that a file with a name is served as, whose response is of the dataset d
abbrev pub saved_dataset : List ℕ → Dataset → Dataset
saved_dataset file_name d = record { name = dataset_name file_name; members = renamed_all d.members }

-- its attributes: a container without entries for each variable (DAP 2.0, DAS)
abbrev pub empty_containers : Members → Entries
empty_containers no_members = no_entries
empty_containers (member m ms) = entry (container (name_of m) no_entries) (empty_containers ms)

abbrev pub saved_attributes : Dataset → Attributes
saved_attributes d = record { containers = empty_containers d.members }

-- the number of the first member that has the name of an earlier one of its level
unfoldable pub first_repeated : Dataset → Option ℕ
first_repeated d = position_from (λ p. list_any (bytes_eq (name_of p.variable)) p.earlier) 1 (places_of d)

-- the bytes of a file with a name hold a dataset and its values
pub record IsSaved (bytes file_name : List ℕ) (d : Dataset) (ts : List Tree) : Type 0 where
  pub response : Dataset
  pub few : length bytes ≤ most_saved
  pub is_body : IsBody bytes response ts
  pub is_dataset : d ≡ saved_dataset file_name response
  pub names_differ : first_repeated d ≡ None

-- what contracts see of a file that was read: its dataset, and that these are its values
unfoldable pub dataset_in : Saved → Dataset
dataset_in s = saved_dataset s.file_name (dataset_view s.response)

abbrev pub values_of : Saved → List ℕ
values_of s = drop s.values_at s.bytes

unfoldable pub Holds : Saved → List Tree → Type 0
Holds s ts = Spells (dataset_view s.response) ts (values_of s)
