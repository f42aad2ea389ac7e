-- Where a reader of `csv` stands in a file, and which errors it may give.
use Rattle.std.specs.Prelude.{◌≡◌, ℕ, ⊤, true, List, ◌∷◌, Some}
use Rattle.std.specs.Borrow.{Bor}
use Rattle.csv.specs.Reading.{Reached, Ready, default_config, is_flexible, reader_config, reader_state, reader_trim, source_of, strip_bom}
use Rattle.csv.specs.declared.error.ErrorKind.{ErrorKind}
use Rattle.csv.specs.declared.error.ErrorKind.TheVariants as kind
use Rattle.csv.specs.declared.parser.State.TheVariants as st
use Rattle.csv.specs.declared.reader.Reader.{Reader}
use Rattle.csv.specs.declared.reader.Trim.TheVariants as trim
use Rattle.dap_types.specs.declared.declarations.Column.{Column}
use Rattle.csv_source.specs.Causes.{rows_cause}
use Rattle.csv_source.specs.declared.refusal.TableRefusal.{TableRefusal}

-- a reader with the settings of `csv_records` that has given these records of the bytes
pub record Stands (bytes : List ℕ) (done : List (List (List ℕ))) (reader : Reader (Bor (List ℕ))) : Type 0 where
  pub flexible : is_flexible reader ≡ true
  pub trim : reader_trim reader ≡ trim.None
  pub ready : Ready reader
  pub config : reader_config reader ≡ default_config
  pub rest : List ℕ
  pub source : source_of (λ s. Some s.now) reader ≡ Some rest
  pub reached : Reached default_config st.StartRecord (strip_bom bytes) done (reader_state reader) rest

-- the reader underneath failed, or memory was wanted
abbrev pub IsIoOrMemory : ErrorKind → Type 0
IsIoOrMemory (kind.Io e) = ⊤
IsIoOrMemory kind.OutOfMemory = ⊤
IsIoOrMemory (kind.UnequalLengths pos expected len) = ⊥
IsIoOrMemory (kind.Utf8 pos err) = ⊥
IsIoOrMemory (kind.Serialize text) = ⊥
IsIoOrMemory (kind.Deserialize pos err) = ⊥

-- this is wrong first with the records behind the header
pub record HasBadRow (columns : List Column) (header : List (List ℕ)) (cause : TableRefusal) (records : List (List (List ℕ))) : Type 0 where
  pub rows : List (List (List ℕ))
  pub behind : records ≡ header ∷ rows
  pub bad : rows_cause columns 1 rows ≡ Some cause
