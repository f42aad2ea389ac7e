-- What the definitions of this crate promise, to one another and to those of `dap_model`, each as a
-- statement over all files.
use Rattle.std.specs.Prelude.{◌≡◌, ◌≢◌, ◌<◌, ◌↔◌, ℕ, List, [], All, codes, Ok, Err, MatchResult}
use Rattle.dap_model.specs.Fits.{FitsAll}
use Rattle.dap_model.specs.Grammar.{HasWords}
use Rattle.dap_types.specs.WellFormed.{IsWellFormed}
use Rattle.dap_types.specs.declared.declarations.BaseType.{BaseType}
use Rattle.file_names.specs.Names.{segment}
use Rattle.csv_source.specs.Causes.{table_of}
use Rattle.csv_source.specs.Dataset.{table_dataset, table_trees}
use Rattle.csv_source.specs.FirstCause.{IsFirstCause, IsTableOf}
use Rattle.csv_source.specs.Header.{typed}
use Rattle.csv_source.specs.LastColon.{IsNameAndType}
use Rattle.csv_source.specs.Names.{without_suffix}
use Rattle.csv_source.specs.Table.{CsvTable}
use Rattle.csv_source.specs.declared.refusal.TableRefusal.{TableRefusal}

-- the type of a header's field is the word behind its last `:`
abbrev pub TypedByLastColon : Type 0
TypedByLastColon = (field name : List ℕ) (base : BaseType) → (typed field ≡ (name, base)) ↔ IsNameAndType field name base

-- a file has a table, or a first cause
abbrev pub TableOrCause : Type 0
TableOrCause = (file_name bytes : List ℕ) → MatchResult (table_of file_name bytes) (IsTableOf file_name bytes) (IsFirstCause bytes)

-- and no other of either
abbrev pub OneAnswer : Type 0
OneAnswer = (file_name bytes : List ℕ) →
    ((t : CsvTable) → IsTableOf file_name bytes t → table_of file_name bytes ≡ Ok t)
    × ((cause : TableRefusal) → IsFirstCause bytes cause → table_of file_name bytes ≡ Err cause)

-- the dataset of a table is well formed
abbrev pub TableIsWellFormed : Type 0
TableIsWellFormed = (file_name bytes : List ℕ) (t : CsvTable) → table_of file_name bytes ≡ Ok t → IsWellFormed (table_dataset t)

-- the values of a table are values of its dataset
abbrev pub TableFits : Type 0
TableFits = (file_name bytes : List ℕ) (t : CsvTable) → table_of file_name bytes ≡ Ok t → FitsAll (table_dataset t).members (table_trees t)

-- the names in the dataset of a table are words: its own, the Sequence's and those of the columns. What
-- stands behind the last `/` of the file's name is not `.csv` alone or nothing, which leave the Sequence none
abbrev pub TableHasWords : Type 0
TableHasWords = (file_name bytes : List ℕ) (t : CsvTable) → All (λ b. b < 256) file_name → All (λ b. b < 256) bytes
    → without_suffix (codes ".csv") (segment file_name) ≢ [] → table_of file_name bytes ≡ Ok t → HasWords (table_dataset t)
