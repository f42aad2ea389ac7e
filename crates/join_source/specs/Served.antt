-- What the datasets of joined files promise.
use Rattle.std.specs.Prelude.{◌≢◌, ℕ, ◌<◌, List, [], All}
use Rattle.dap_model.specs.Fits.{FitsAll}
use Rattle.dap_model.specs.Grammar.{HasWords}
use Rattle.file_names.specs.Names.{segment}
use Rattle.netcdf_source.specs.declared.header.Contents.{Contents}
use Rattle.join_source.specs.Members.{CanJoin, HaveHeaders, joined_dataset}
use Rattle.join_source.specs.Trees.{joined_trees}

-- the values are values of it
abbrev pub JoinedFits : Type 0
JoinedFits = (cs : List Contents) (files : List (List ℕ)) (file_name : List ℕ) → CanJoin cs → HaveHeaders cs files → FitsAll (joined_dataset cs file_name).members (joined_trees cs files)

-- the names are words. Something stands behind the last `/` of the list's name
abbrev pub JoinedHasWords : Type 0
JoinedHasWords = (cs : List Contents) (files : List (List ℕ)) (file_name : List ℕ) → CanJoin cs → HaveHeaders cs files → All (λ b. b < 256) file_name → segment file_name ≢ [] → HasWords (joined_dataset cs file_name)
