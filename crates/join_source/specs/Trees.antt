-- The values of files that are joined along the record dimension (netCDF classic format; DAP 2.0, base types and
-- constructor types).
use Rattle.std.specs.Prelude.{ℕ, ◌+◌, Bool, false, List, [], ◌∷◌, ◌++◌, map, if◌then◌else◌, slice_get}
use Rattle.std.specs.List.{filter_map, zip}
use Rattle.std.specs.Option.{option_map_or}
use Rattle.dap_types.specs.Model.{Tree, many, no_trees, trees_of}
use Rattle.netcdf_source.specs.Mapping.{coordinate_at, is_grid, is_offered, is_over_records}
use Rattle.netcdf_source.specs.Values.{tree_of}
use Rattle.netcdf_source.specs.declared.header.Contents.{Contents}
use Rattle.netcdf_source.specs.declared.header.Variable.{Variable}
use Rattle.join_source.specs.Cutting.{joined_along}
use Rattle.join_source.specs.Members.{joined_contents}

-- the values of the variable with that number, from 0, of a file
unfoldable pub tree_at : ℕ → Contents → List ℕ → Tree
tree_at k c file = option_map_or (tree_of c file) (slice_get c.variables k) (many no_trees)

-- of each file, with its header; there is one file for each header where the files have these headers
abbrev pub trees_at : ℕ → List Contents → List (List ℕ) → List Tree
trees_at k cs files = map (λ p. tree_at k p.0 p.1) (zip cs files)

abbrev pub first_tree : List Tree → Tree
first_tree [] = many no_trees
first_tree (t ∷ ts) = t

-- whether it is a record variable
abbrev pub is_over_records_at : Contents → ℕ → Bool
is_over_records_at c k = option_map_or (is_over_records c) (slice_get c.variables k) false

-- of the files together: the records of a record variable one file after the other, and those of any other
-- variable as the first file has them
unfoldable pub joined_tree : List Contents → List (List ℕ) → ℕ → Tree
joined_tree cs files k = if is_over_records_at (joined_contents cs) k then joined_along (trees_at k cs files) else first_tree (trees_at k cs files)

-- the values of what variable k becomes, where each variable has its values: a Grid has those of its array and
-- of its maps
abbrev pub member_tree_by : Contents → (ℕ → Tree) → ℕ → Variable → Tree
member_tree_by c tree k v = if is_grid c v then many (trees_of (map tree (k ∷ filter_map (coordinate_at c) v.dimensions))) else tree k

unfoldable pub trees_from : Contents → (ℕ → Tree) → ℕ → List Variable → List Tree
trees_from c tree k [] = []
trees_from c tree k (v ∷ vs) = (if is_offered c v then member_tree_by c tree k v ∷ [] else []) ++ trees_from c tree (k + 1) vs

-- the values of the dataset
abbrev pub joined_trees : List Contents → List (List ℕ) → List Tree
joined_trees cs files = trees_from (joined_contents cs) (joined_tree cs files) 0 (joined_contents cs).variables
