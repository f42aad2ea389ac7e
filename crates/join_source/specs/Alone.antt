-- One file by itself: what joining makes of it.
use Rattle.std.specs.Prelude.{◌≡◌, ℕ, List, [], ◌∷◌}
use Rattle.netcdf_source.specs.Mapping.{dataset_of}
use Rattle.netcdf_source.specs.Values.{file_trees}
use Rattle.netcdf_source.specs.declared.header.Contents.{Contents}
use Rattle.join_source.specs.Members.{joined_dataset}
use Rattle.join_source.specs.Trees.{joined_trees}

-- joined to no other, a file gives its own dataset and its own values
abbrev pub OneIsItself : Type 0
OneIsItself = (c : Contents) (file_name file : List ℕ) → (joined_dataset (c ∷ []) file_name ≡ dataset_of c file_name) × (joined_trees (c ∷ []) (file ∷ []) ≡ file_trees c file)
