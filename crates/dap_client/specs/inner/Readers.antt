-- Which bytes a reader of a body was given and what it has put of them, and what it says of them where they end.
use Rattle.std.specs.Prelude.{◌≡◌, ℕ, ◌<◌, ◌≤◌, ⊤, Bool, true, List, [], ◌++◌, length, take, codes}
use Rattle.std.specs.Fmt.{decimal}
use Rattle.dap_types.specs.Model.{Dataset, Tree}
use Rattle.dap_model.specs.Partly.{ShowsLines}
use Rattle.dap_model.specs.Shown.{shown}
use Rattle.xdr_decode.specs.Verdict.{budget}
use Rattle.reply_faults.specs.declared.bad.Bad.TheVariants.{Cut}
use Rattle.dap_client.specs.Shows.{BreaksOff, HasFewValues, StopsWithin}
use Rattle.dap_client.specs.Verdict.{IsVerdict, bad, dods_form, good, server_error}
use Rattle.dap_client.specs.inner.Stages.{IsQuiet, IsStage, is_open_stage, piece_length}
use Rattle.dap_client.specs.declared.outcome.Outcome.{Outcome}
use Rattle.dap_client.specs.declared.outcome.Outcome.TheVariants as outcome
use Rattle.dap_client.specs.declared.reader.BodyReader.{BodyReader}
use Rattle.dap_client.specs.declared.reader.Ended.{Ended}
use Rattle.dap_client.specs.declared.reader.Ended.TheVariants as ended
use Rattle.dap_client.specs.declared.stage.Stage.TheVariants as stage

abbrev pub taken_of : BodyReader → ℕ
taken_of r = r.taken

-- it looks at further bytes
abbrev pub is_open : BodyReader → Bool
is_open r = is_open_stage r.stage

abbrev pub HasFailed : BodyReader → Type 0
HasFailed r = r.stage ≡ stage.Failed

-- it has put nothing
abbrev pub HasPutNothing : BodyReader → Type 0
HasPutNothing r = IsQuiet r.stage

-- the reader was given these bytes, and has put this text
pub record ReaderStandsAfter (reader : BodyReader) (bytes put : List ℕ) : Type 0 where
  pub taken : length bytes ≡ taken_of reader
  pub is_stage : IsStage reader.stage bytes put
  pub most : length bytes ≤ budget
  pub within : is_open reader ≡ true → length bytes < budget

-- some bytes
abbrev pub Stands : BodyReader → Type 0
Stands r = (bytes : List ℕ) × (put : List ℕ) × ReaderStandsAfter r bytes put

-- the line that says that all came
abbrev pub completed : ℕ → List ℕ
completed n = codes "complete " ++ decimal n ++ codes "\n"

-- what it says of the bytes where they end
abbrev pub IsEnded : List ℕ → List ℕ → Ended → Type 0
IsEnded bytes put ended.Whole = (d : Dataset) × (ts : List Tree) × IsVerdict dods_form bytes (good d ts) × (shown d ts (length bytes) ≡ put ++ completed (length bytes))
IsEnded bytes put (ended.ServerError e) = IsVerdict dods_form bytes (server_error e) × (put ≡ [])
IsEnded bytes put (ended.Bad field) = IsVerdict dods_form bytes (bad field.kind field.place) × ShowsLines (take field.place bytes) put
IsEnded bytes put ended.WriteFault = StopsWithin bytes put
IsEnded bytes put ended.Memory = HasFewValues piece_length bytes × (put ≡ [])

-- what is wrong stays so, whatever follows: it is not that they end
abbrev pub StaysBad : List ℕ → Ended → Type 0
StaysBad bytes ended.Whole = ⊥
StaysBad bytes (ended.ServerError e) = ⊥
StaysBad bytes (ended.Bad field) = ((more : List ℕ) → IsVerdict dods_form (bytes ++ more) (bad field.kind field.place)) × (¬ (field.kind ≡ Cut))
StaysBad bytes e = ⊤

abbrev pub WhereWriteFault : Type 0 → Ended → Type 0
WhereWriteFault P ended.WriteFault = P
WhereWriteFault P e = ⊤

-- nothing goes out for an Error object, and where memory was wanted
abbrev pub WhereNothing : Type 0 → Ended → Type 0
WhereNothing P (ended.ServerError e) = P
WhereNothing P ended.Memory = P
WhereNothing P e = ⊤

abbrev pub StaysBadReply : List ℕ → Outcome → Type 0
StaysBadReply bytes (outcome.Complete n) = ⊥
StaysBadReply bytes (outcome.ServerError code message) = ⊥
StaysBadReply bytes (outcome.BadReply field) = StaysBad bytes (ended.Bad field)
StaysBadReply bytes o = ⊤

-- the bytes have this outcome: they had put the one text, and the other was put at their end
abbrev pub IsFinished : List ℕ → List ℕ → List ℕ → Outcome → Type 0
IsFinished bytes put text (outcome.Complete n) =
    (n ≡ length bytes) × ((d : Dataset) × (ts : List Tree) × IsVerdict dods_form bytes (good d ts) × (shown d ts n ≡ put ++ text))
IsFinished bytes put text (outcome.ServerError code message) = IsEnded bytes put (ended.ServerError (record { code = code; message = message })) × (text ≡ [])
IsFinished bytes put text (outcome.BadReply field) = IsEnded bytes put (ended.Bad field) × (text ≡ [])
IsFinished bytes put text outcome.WriteFault = BreaksOff bytes (put ++ text)
IsFinished bytes put text outcome.ReadFault = ⊥
IsFinished bytes put text outcome.LinkFault = ⊥
IsFinished bytes put text outcome.Memory = IsEnded bytes put ended.Memory × (text ≡ [])
