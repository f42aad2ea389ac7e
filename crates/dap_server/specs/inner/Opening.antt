-- A stored file that was opened, and why none was.
use Rattle.std.specs.Prelude.{◌≡◌, ℕ, ◌≤◌, ◌*◌, ⊤, List, length, max, Option, Some, None, IsSome, Result, Ok, Err}
use Rattle.dap_types.specs.Limits.{most_piece}
use Rattle.dap_outside.specs.Files.{IsBytes, Reads, Told}
use Rattle.das_text.specs.Model.{Attributes}
use Rattle.dap_types.specs.Model.{Dataset, Tree}
use Rattle.dap_errors.specs.declared.cause.Cause.{Cause}
use Rattle.dap_errors.specs.declared.cause.Cause.TheVariants.{Damaged, Syntax, TooLarge}
use Rattle.dap_errors.specs.declared.file_cause.FileCause.{FileCause}
use Rattle.constraint_parse.specs.declared.refusal.ParseRefusal.{ParseRefusal}
use Rattle.constraint_parse.specs.declared.refusal.ParseRefusal.TheVariants as parse
use Rattle.csv_source.specs.Causes.{table_of}
use Rattle.csv_source.specs.Dataset.{table_attributes, table_dataset, table_trees}
use Rattle.netcdf_source.specs.Attributes.{attributes_of}
use Rattle.netcdf_source.specs.Header.{IsCut, IsHeader}
use Rattle.netcdf_source.specs.Mapping.{dataset_of}
use Rattle.netcdf_source.specs.Values.{file_trees}
use Rattle.saved_source.specs.Responses.{Holds, IsSaved, saved_attributes}
use Rattle.saved_source.specs.Responses as responses
use Rattle.saved_source.specs.declared.refusal.SavedBodyRefusal.{SavedBodyRefusal}
use Rattle.saved_source.specs.declared.refusal.SavedBodyRefusal.TheVariants as saved_bodies
use Rattle.xdr_encode.specs.declared.refusal.BodyRefusal.{BodyRefusal}
use Rattle.xdr_encode.specs.declared.refusal.BodyRefusal.TheVariants as bodies
use Rattle.dap_server.specs.Files.{Files, Form, MayHave, Stored, form_of, front, joined, netcdf, saved, table}
use Rattle.dap_server.specs.declared.open.FileForm.{FileForm}
use Rattle.dap_server.specs.declared.open.FileForm.TheVariants as forms
use Rattle.dap_server.specs.declared.open.Opened.{Opened}
use Rattle.dap_server.specs.declared.open.Opened.TheVariants.{Netcdf, Saved, Table}
use Rattle.dap_server.specs.declared.no_answer.Stop.{Stop}
use Rattle.dap_server.specs.declared.no_answer.Stop.TheVariants.{Refused, ShelfFault, Memory}

-- the bytes that a file tells, or any where it tells none
abbrev pub IsRead : Option (List ℕ) → List ℕ → Type 0
IsRead None bytes = ⊤
IsRead (Some told) bytes = bytes ≡ told

-- so many bytes are wanted of a file's front: 64 KiB, or twice as many of its first bytes as stop within the
-- header
abbrev pub IsWanted : Option (List ℕ) → ℕ → Type 0
IsWanted content n = (held : List ℕ) × Reads content 0 held × IsCut held × (n ≤ max most_piece (2 * length held))

-- The shelf may have a file of this name and these bytes, which are those of the content that is told. So
-- many bytes has the file.
pub record Lies (told : Told) (content : Option (List ℕ)) (size : ℕ) (name bytes : List ℕ) : Type 0 where
  pub files : Files
  pub may_have : MayHave told files
  pub there : files name ≡ Some bytes
  pub is_read : IsRead content bytes
  pub tells : IsSome told → content ≡ Some bytes
  pub is_size : size ≡ length bytes

-- the shelf may have a file of this name and these bytes
abbrev pub Has : Told → List ℕ → List ℕ → Type 0
Has told name bytes = (files : Files) × MayHave told files × (files name ≡ Some bytes)

-- the shelf may have no file of this name
abbrev pub IsMissing : Told → List ℕ → Type 0
IsMissing None name = ⊤
IsMissing (Some told) name = told name ≡ None

abbrev pub form_view : FileForm → Form
form_view forms.Netcdf = netcdf
form_view forms.Table = table
form_view forms.Saved = saved
form_view forms.Joined = joined

-- it was opened as the file of this name and these bytes, which has these values
abbrev pub OpenedAs : Opened → List ℕ → List ℕ → List Tree → Type 0
OpenedAs (Netcdf h) name bytes ts = (form_of name ≡ Some netcdf) × IsHeader h.contents (front bytes) (length bytes) × (h.length ≡ length bytes) × (ts ≡ file_trees h.contents bytes)
OpenedAs (Table t) name bytes ts = (form_of name ≡ Some table) × (table_of name bytes ≡ Ok t) × (ts ≡ table_trees t)
OpenedAs (Saved s) name bytes ts = (form_of name ≡ Some saved) × IsSaved bytes name (responses.dataset_in s.saved) ts × Holds s.saved ts

-- the bytes over which its body goes out: the file's, each of them a byte, or where its values were read
-- before any
abbrev pub IsHeldBy : Opened → List ℕ → List ℕ → Type 0
IsHeldBy (Netcdf h) bytes held = (held ≡ bytes) × IsBytes bytes
IsHeldBy (Table t) bytes held = ⊤
IsHeldBy (Saved s) bytes held = ⊤

-- its dataset and its attributes
abbrev pub dataset_in : Opened → List ℕ → Dataset
dataset_in (Netcdf h) name = dataset_of h.contents name
dataset_in (Table t) name = table_dataset t
dataset_in (Saved s) name = responses.dataset_in s.saved

abbrev pub attributes_in : Opened → Attributes
attributes_in (Netcdf h) = attributes_of h.contents
attributes_in (Table t) = table_attributes t
attributes_in (Saved s) = saved_attributes (responses.dataset_in s.saved)

-- what it has, with these values
abbrev pub stored_of : Opened → List ℕ → List Tree → Stored
stored_of o name ts = record { dataset = dataset_in o name; trees = ts; attributes = attributes_in o }

-- the stop for the cause of a file
abbrev pub stop_of : Option FileCause → Stop
stop_of None = Memory
stop_of (Some why) = Refused (Damaged why)

-- a query that is refused
abbrev pub parse_stop : ParseRefusal → Stop
parse_stop (parse.Syntax place) = Refused (Syntax place)
parse_stop parse.Memory = Memory

-- a body that is too large
abbrev pub body_stop : BodyRefusal → Stop
body_stop (bodies.TooLarge leaf) = Refused (TooLarge leaf)
body_stop bodies.Memory = Memory

-- a body of a saved response that is too large, by its DDS alone
abbrev pub saved_stop : SavedBodyRefusal → Stop
saved_stop saved_bodies.TooLarge = Refused (TooLarge 0)
saved_stop saved_bodies.Memory = Memory

-- by the stop
abbrev pub WhereRefused : (Cause → Type 0) → Stop → Type 0
WhereRefused P (Refused cause) = P cause
WhereRefused P ShelfFault = ⊤
WhereRefused P Memory = ⊤

abbrev pub WhereFault : Type 0 → Stop → Type 0
WhereFault P ShelfFault = P
WhereFault P (Refused cause) = ⊤
WhereFault P Memory = ⊤

-- the shelf's count stayed, but where the stop is its fault
abbrev pub StaysBut : {V : Type 0} → Result V Stop → ℕ → ℕ → Type 0
StaysBut (Err ShelfFault) before now = ⊤
StaysBut other before now = now ≡ before
