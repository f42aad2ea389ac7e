-- What a stored file has: its dataset, its values and its attributes, or the first cause for which it has
-- none (netCDF classic format; RFC 4180; DAP 2.0, DODS). The end of its name says how it is read (this
-- project's).
use Rattle.std.specs.Prelude.{◌≡◌, ◌⊎◌, ℕ, Bool, true, false, ◌&&◌, List, length, nat_eq, nat_lt, if◌then◌else◌, codes, Option, Some, None, Result, Ok, Err}
use Rattle.std.specs.List.{ends_with}
use Rattle.dap_types.specs.Model.{Dataset, Tree}
use Rattle.dap_outside.specs.Files.{Told}
use Rattle.file_names.specs.Names.{segment}
use Rattle.dap_errors.specs.declared.cause.Cause.{Cause}
use Rattle.dap_errors.specs.declared.cause.Cause.TheVariants.{Damaged}
use Rattle.dap_errors.specs.declared.file_cause.FileCause.{FileCause}
use Rattle.dap_errors.specs.declared.file_cause.FileCause.TheVariants as causes
use Rattle.netcdf_source.specs.Attributes.{attributes_of}
use Rattle.netcdf_source.specs.Header.{IsHeader}
use Rattle.netcdf_source.specs.Mapping.{dataset_of}
use Rattle.netcdf_source.specs.Values.{file_trees}
use Rattle.netcdf_source.specs.declared.header.Contents.{Contents}
use Rattle.csv_source.specs.Causes.{table_of}
use Rattle.csv_source.specs.Dataset.{table_attributes, table_dataset, table_trees}
use Rattle.csv_source.specs.Table.{CsvTable}
use Rattle.csv_source.specs.declared.refusal.TableRefusal.{TableRefusal}
use Rattle.csv_source.specs.declared.refusal.TableRefusal.TheVariants as tables
use Rattle.saved_source.specs.Refusals.{IsRefusal}
use Rattle.saved_source.specs.Responses.{IsSaved, saved_attributes}
use Rattle.saved_source.specs.declared.refusal.SavedRefusal.{SavedRefusal}
use Rattle.saved_source.specs.declared.refusal.SavedRefusal.TheVariants as responses
pub use Rattle.dap_server.specs.Headers.{Files, IsHeaderCause, MayFind, MayHave, Stored, front, header_cause}
use Rattle.dap_server.specs.Joins.{IsJoined}

-- how a file is read
pub data Form : Type 0 where
  netcdf table saved joined : Form

-- the last segment of the name ends so, behind at least one byte
abbrev pub has_end : List ℕ → List ℕ → Bool
has_end end name = nat_lt (length end) (length (segment name)) && ends_with nat_eq (segment name) end

abbrev pub form_of : List ℕ → Option Form
form_of name =
    if has_end (codes ".nc") name then Some netcdf
    else if has_end (codes ".csv") name then Some table
    else if has_end (codes ".dods") name then Some saved
    else if has_end (codes ".join") name then Some joined
    else None

-- The values of netCDF files, one or joined, are read as they go out, those of another file before.
abbrev pub is_read_first : Option Form → Bool
is_read_first (Some table) = true
is_read_first (Some saved) = true
is_read_first (Some netcdf) = false
is_read_first (Some joined) = false
is_read_first None = false

-- the file is a netCDF file or a table, alone
abbrev pub IsOneFile : Option Form → Type 0
IsOneFile o = (o ≡ Some netcdf) ⊎ (o ≡ Some table)

-- the file is a list of others
abbrev pub is_joined : Option Form → Bool
is_joined (Some joined) = true
is_joined (Some netcdf) = false
is_joined (Some table) = false
is_joined (Some saved) = false
is_joined None = false

-- of a netCDF file with a header that says this
abbrev pub netcdf_stored : List ℕ → List ℕ → Contents → Stored
netcdf_stored name bytes c = record { dataset = dataset_of c name; trees = file_trees c bytes; attributes = attributes_of c }

-- of a table
abbrev pub table_stored : CsvTable → Stored
table_stored t = record { dataset = table_dataset t; trees = table_trees t; attributes = table_attributes t }

-- of a response that was saved
abbrev pub saved_stored : Dataset → List Tree → Stored
saved_stored d ts = record { dataset = d; trees = ts; attributes = saved_attributes d }

-- the cause for which a file has no table. Want of memory is none
abbrev pub table_cause : TableRefusal → Option FileCause
table_cause tables.TooLong = Some causes.TooLong
table_cause tables.NoHeader = Some causes.NoHeader
table_cause tables.TooWide = Some causes.TooWide
table_cause (tables.RepeatedColumn column) = Some (causes.RepeatedColumn column)
table_cause (tables.Ragged row) = Some (causes.Ragged row)
table_cause (tables.BadCell row column) = Some (causes.BadCell row column)
table_cause tables.Memory = None

-- the cause for which a file holds no data response. Want of memory is none
abbrev pub saved_cause : SavedRefusal → Option FileCause
saved_cause responses.TooLong = Some causes.SavedTooLong
saved_cause (responses.BadBody place) = Some (causes.BadBody place)
saved_cause (responses.RepeatedName n) = Some (causes.RepeatedName n)
saved_cause responses.Memory = None

-- a file of this name and these bytes is no table, for this cause
abbrev pub IsTableCause : List ℕ → List ℕ → Cause → Type 0
IsTableCause name bytes cause =
    (refusal : TableRefusal) × (why : FileCause) × (table_of name bytes ≡ Err refusal) × (table_cause refusal ≡ Some why) × (cause ≡ Damaged why)

-- a file of this name and these bytes holds no data response, for this cause
abbrev pub IsSavedCause : List ℕ → List ℕ → Cause → Type 0
IsSavedCause name bytes cause =
    (refusal : SavedRefusal) × (why : FileCause) × IsRefusal bytes name refusal × (saved_cause refusal ≡ Some why) × (cause ≡ Damaged why)

-- a netCDF file of this name and these bytes has that, or has nothing for that cause
abbrev pub IsNetcdf : List ℕ → List ℕ → Result Stored Cause → Type 0
IsNetcdf name bytes (Ok stored) = (c : Contents) × IsHeader c (front bytes) (length bytes) × (stored ≡ netcdf_stored name bytes c)
IsNetcdf name bytes (Err cause) = IsHeaderCause (front bytes) (length bytes) cause

-- a table
abbrev pub IsTable : List ℕ → List ℕ → Result Stored Cause → Type 0
IsTable name bytes (Ok stored) = (t : CsvTable) × (table_of name bytes ≡ Ok t) × (stored ≡ table_stored t)
IsTable name bytes (Err cause) = IsTableCause name bytes cause

-- a response that was saved
abbrev pub IsResponse : List ℕ → List ℕ → Result Stored Cause → Type 0
IsResponse name bytes (Ok stored) = (d : Dataset) × (ts : List Tree) × IsSaved bytes name d ts × (stored ≡ saved_stored d ts)
IsResponse name bytes (Err cause) = IsSavedCause name bytes cause

-- a file of that form. The files that a list names are those that the shelf tells, or any where it tells none
abbrev pub IsStored : Told → Form → List ℕ → List ℕ → Result Stored Cause → Type 0
IsStored told netcdf name bytes r = IsNetcdf name bytes r
IsStored told table name bytes r = IsTable name bytes r
IsStored told saved name bytes r = IsResponse name bytes r
IsStored told joined name bytes r = IsJoined told name bytes r
