-- Which bytes of a body a reader stands after and what it has put of them, and what its answers say.
use Rattle.std.specs.Prelude.{◌≡◌, ℕ, ◌<◌, ◌≤◌, true, List, [], length, take, Option, Some, None, Result, Ok, Err}
use Rattle.dap_model.specs.Received.{HasHead}
use Rattle.xdr_decode.specs.Verdict.{budget}
use Rattle.reply_faults.specs.declared.bad.BadField.{BadField}
use Rattle.dap_client.specs.Answered.{IsLasting, ShowsBroken, ShowsRefused, good_part, text_shown}
use Rattle.dap_client.specs.Outcomes.{outcome_of}
use Rattle.dap_client.specs.Replies.{first_of, form_of}
use Rattle.dap_client.specs.Shows.{BreaksOff}
use Rattle.dap_client.specs.Verdict.{Form, Verdict, IsVerdict, bad, dods_form, server_error}
use Rattle.dap_client.specs.inner.Readers as readers
use Rattle.dap_client.specs.inner.TextBodies.{IsText, IsTextStage}
use Rattle.dap_client.specs.declared.body.Body.{Body}
use Rattle.dap_client.specs.declared.part.Part.{Part}
use Rattle.dap_client.specs.declared.part.Part.TheVariants as part
use Rattle.dap_client.specs.declared.outcome.Outcome.{Outcome}
use Rattle.dap_client.specs.declared.outcome.Outcome.TheVariants.{Complete, ServerError, BadReply, ReadFault, WriteFault, LinkFault, Memory}

-- what the body is read as
abbrev pub form_in : Body → Form
form_in b = form_of b.kind

-- a data response is shown as it comes; of a DDS and a DAS nothing was put yet
abbrev pub IsPart : Form → Part → List ℕ → List ℕ → Type 0
IsPart form (part.Data reader) bytes put = (form ≡ dods_form) × readers.ReaderStandsAfter reader bytes put × (readers.is_open reader ≡ true)
IsPart form (part.Text stage) bytes put = IsText form × IsTextStage form stage bytes × (put ≡ [])

-- the reader was given these bytes, and has put this text
unfoldable pub BodyStandsAfter : Body → List ℕ → List ℕ → Type 0
BodyStandsAfter b bytes put = IsPart (form_of b.kind) b.part bytes put × (b.taken ≡ length bytes) × (length bytes < budget)

-- some bytes
abbrev pub Stands : Body → Type 0
Stands b = (bytes : List ℕ) × (put : List ℕ) × BodyStandsAfter b bytes put

-- no `Data:` line of a data response has come
abbrev pub HasNoLine : Form → List ℕ → Type 0
HasNoLine form bytes = form ≡ dods_form → ¬ (HasHead bytes)

-- What a reader that had some bytes answers, in the end, to a piece behind them. By these bytes, those with
-- the piece, and all that was put. Of a DDS and a DAS nothing is put yet.
abbrev pub IsStopped : Form → List ℕ → List ℕ → List ℕ → Outcome → Type 0
IsStopped form before bytes text (BadReply field) = (field.place ≤ length bytes) × IsLasting form bytes field × ShowsRefused form (take field.place bytes) text
IsStopped form before bytes text WriteFault = (form ≡ dods_form) × BreaksOff bytes text
IsStopped form before bytes text Memory = (text ≡ []) × HasNoLine form before
IsStopped form before bytes text outcome = ⊥

abbrev pub IsPushed : Body → Form → List ℕ → List ℕ → List ℕ → Option Outcome → Type 0
IsPushed b form before bytes text None = BodyStandsAfter b bytes text
IsPushed b form before bytes text (Some outcome) = IsStopped form before bytes text outcome

-- the same, before the body's own reader is put back
abbrev pub IsRead : Form → List ℕ → List ℕ → List ℕ → Result Part Outcome → Type 0
IsRead form before bytes text (Ok p) = IsPart form p bytes text × (length bytes < budget)
IsRead form before bytes text (Err outcome) = IsStopped form before bytes text outcome

-- What it answers to the end of the body, by all bytes and all that was put.
abbrev pub IsFinished : Form → List ℕ → List ℕ → Outcome → Type 0
IsFinished form bytes text (Complete n) = (v : Verdict) × IsVerdict form bytes v × (outcome_of (length bytes) v ≡ Complete n) × (text ≡ text_shown n v)
IsFinished form bytes text (ServerError code message) = IsVerdict form bytes (server_error (record { code = code; message = message })) × (text ≡ [])
IsFinished form bytes text (BadReply field) = IsVerdict form bytes (bad field.kind field.place) × ShowsRefused form (take field.place bytes) text
IsFinished form bytes text WriteFault = ShowsBroken form bytes text
IsFinished form bytes text Memory = (text ≡ []) × HasNoLine form bytes
IsFinished form bytes text ReadFault = ⊥
IsFinished form bytes text LinkFault = ⊥

-- What it answers where the body breaks off behind these bytes, for that reason.
abbrev pub IsBrokenOff : Form → List ℕ → List ℕ → BadField → Outcome → Type 0
IsBrokenOff form bytes text wrong (BadReply field) =
    (front : Verdict) × IsVerdict form bytes front × (bad field.kind field.place ≡ first_of front wrong) × ShowsRefused form (good_part front bytes) text
IsBrokenOff form bytes text wrong Memory = (text ≡ []) × HasNoLine form bytes
IsBrokenOff form bytes text wrong outcome = ⊥
