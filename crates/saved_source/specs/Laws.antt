-- What the datasets of saved responses promise, and that a response that is saved keeps its values.
use Rattle.std.specs.Prelude.{◌≡◌, ◌≢◌, ℕ, ◌<◌, ◌≤◌, List, [], All, None, length}
use Rattle.dap_types.specs.Limits.{most_saved}
use Rattle.dap_types.specs.Model.{Dataset, Tree}
use Rattle.dap_types.specs.WellFormed.{IsWellFormed}
use Rattle.dap_model.specs.Body.{body, too_large}
use Rattle.dap_model.specs.Fits.{FitsAll}
use Rattle.dap_model.specs.Grammar.{HasWords}
use Rattle.file_names.specs.Names.{segment}
use Rattle.saved_source.specs.Responses.{IsSaved, first_repeated, saved_dataset}

-- the dataset is well formed
abbrev pub SavedIsWellFormed : Type 0
SavedIsWellFormed = (bytes file_name : List ℕ) (d : Dataset) (ts : List Tree) → IsSaved bytes file_name d ts → IsWellFormed d

-- the values are values of it
abbrev pub SavedFits : Type 0
SavedFits = (bytes file_name : List ℕ) (d : Dataset) (ts : List Tree) → IsSaved bytes file_name d ts → FitsAll d.members ts

-- its names are words. Something stands behind the last `/` of the file's name
abbrev pub SavedHasWords : Type 0
SavedHasWords = (bytes file_name : List ℕ) (d : Dataset) (ts : List Tree) → All (λ b. b < 256) file_name → All (λ b. b < 256) bytes → segment file_name ≢ [] → IsSaved bytes file_name d ts → HasWords d

-- A response that this project writes, saved under any name, has its dataset under that name and its
-- values, unless it is too long or two names become one.
abbrev pub WrittenIsSaved : Type 0
WrittenIsSaved = (file_name : List ℕ) (d : Dataset) (ts : List Tree) → HasWords d → IsWellFormed d → FitsAll d.members ts → too_large d ≡ None → length (body d ts) ≤ most_saved →
    first_repeated (saved_dataset file_name d) ≡ None → IsSaved (body d ts) file_name (saved_dataset file_name d) ts
