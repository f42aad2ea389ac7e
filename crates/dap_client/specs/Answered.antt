-- What the outcome of a reply says of the bytes that were taken, and of the text that was put.
use Rattle.std.specs.Prelude.{◌≡◌, ℕ, ◌≤◌, ◌⊎◌, Bool, List, [], ◌++◌, length, take}
use Rattle.das_text.specs.Das.{das}
use Rattle.das_text.specs.Model.{Attributes}
use Rattle.dap_types.specs.Limits.{most_piece}
use Rattle.dap_types.specs.Model.{Dataset}
use Rattle.dap_model.specs.Dds.{dds}
use Rattle.dap_model.specs.Partly.{ShowsLines}
use Rattle.dap_model.specs.Received.{HasHead, IsPrefix}
use Rattle.dap_model.specs.Shown.{shown}
use Rattle.xdr_decode.specs.Verdict.{budget}
use Rattle.reply_faults.specs.declared.bad.BadField.{BadField}
use Rattle.dap_http.specs.Delivered.{BreaksOff, Delivers, HasCoding, HasCome}
use Rattle.dap_http.specs.declared.coding.Coding.{Coding}
use Rattle.dap_client.specs.Outcomes.{outcome_of}
use Rattle.dap_client.specs.Replies.{Brings, BringsFirst, first_of}
use Rattle.dap_client.specs.Shows as shows
use Rattle.dap_client.specs.Shows.{StopsWithin}
use Rattle.dap_client.specs.Verdict.{Form, Verdict, IsVerdict, bad, das_form, dds_form, dods_form, good, good_das, good_dds, server_error}
use Rattle.dap_client.specs.declared.outcome.Outcome.{Outcome}
use Rattle.dap_client.specs.declared.outcome.Outcome.TheVariants.{Complete, ServerError, BadReply, ReadFault, WriteFault, LinkFault, Memory}

-- what is put of a good body of so many bytes: a DDS and a DAS are printed again
abbrev pub text_shown : ℕ → Verdict → List ℕ
text_shown n (good d ts) = shown d ts n
text_shown n (good_dds d) = dds d
text_shown n (good_das a) = das a
text_shown n v = []

-- the bytes before what is wrong
abbrev pub good_part : Verdict → List ℕ → List ℕ
good_part (bad kind place) bytes = take place bytes
good_part v bytes = bytes

-- of a body that is refused behind these good bytes: of a DDS and a DAS nothing
abbrev pub ShowsRefused : Form → List ℕ → List ℕ → Type 0
ShowsRefused dods_form bytes text = ShowsLines bytes text
ShowsRefused dds_form bytes text = text ≡ []
ShowsRefused das_form bytes text = text ≡ []

-- of a body of which no more could be read
abbrev pub ShowsStopped : Form → List ℕ → List ℕ → Type 0
ShowsStopped dods_form body text = StopsWithin body text
ShowsStopped dds_form body text = text ≡ []
ShowsStopped das_form body text = text ≡ []

-- of a whole one of which no more could be put
abbrev pub ShowsBroken : Form → List ℕ → List ℕ → Type 0
ShowsBroken dods_form body text = shows.BreaksOff body text
ShowsBroken dds_form body text = (d : Dataset) × IsVerdict dds_form body (good_dds d) × IsPrefix text (dds d)
ShowsBroken das_form body text = (a : Attributes) × IsVerdict das_form body (good_das a) × IsPrefix text (das a)

-- Of a reply of which no more could be put: of a data response, by the bytes of it that came; of a DDS and a DAS nothing
-- is put before the body has ended
abbrev pub ShowsUnput : Form → List ℕ → Bool → List ℕ → List ℕ → Type 0
ShowsUnput dods_form reply ended rest text = (body : List ℕ) × BringsFirst reply body × ShowsBroken dods_form (take budget body) text
ShowsUnput form reply ended rest text = (body : List ℕ) × Delivers reply ended body rest × ShowsBroken form body text

-- ---- What is taken of a reply where memory is wanted.

-- the good `Data:` line of a data response has come with these bytes
pub record BringsLine (reply : List ℕ) : Type 0 where
  pub coding : Coding
  pub behind : List ℕ
  pub body : List ℕ
  pub has_coding : HasCoding reply coding behind
  pub comes : HasCome coding behind body
  pub has_line : HasHead body

-- at most a piece of the reply was taken behind that line
abbrev pub TakesFewValues : List ℕ → Type 0
TakesFewValues reply = (front more : List ℕ) → reply ≡ front ++ more → BringsLine front → length more ≤ most_piece

-- ---- What is wrong with a reply.

-- the body that came is bad there, whatever follows
abbrev pub IsLasting : Form → List ℕ → BadField → Type 0
IsLasting form body field = (more : List ℕ) → IsVerdict form (body ++ more) (bad field.kind field.place)

pub record BringsBad (form : Form) (Brings : List ℕ → Type 0) (field : BadField) (text : List ℕ) : Type 0 where
  pub body : List ℕ
  pub brings : Brings body
  pub lasting : IsLasting form body field
  pub shows : ShowsRefused form (take field.place body) text

-- the body has ended, and is bad
pub record DeliversBad (form : Form) (Ends : List ℕ → Type 0) (field : BadField) (text : List ℕ) : Type 0 where
  pub body : List ℕ
  pub delivers : Ends body
  pub verdict : IsVerdict form body (bad field.kind field.place)
  pub shows : ShowsRefused form (take field.place body) text

-- the heads are wrong, or the framing is bad or cut; what is wrong with the bytes of the body that came
-- goes first
pub record BreaksBad (form : Form) (Breaks : List ℕ → BadField → Type 0) (field : BadField) (text : List ℕ) : Type 0 where
  pub body : List ℕ
  pub wrong : BadField
  pub front : Verdict
  pub breaks : Breaks body wrong
  pub verdict : IsVerdict form body front
  pub is_first : bad field.kind field.place ≡ first_of front wrong
  pub shows : ShowsRefused form (good_part front body) text

-- ---- The outcome.

-- Of the bytes of a reply, of whether they have ended, of those that stand behind its framing, and of the
-- text that was put.
abbrev pub Tells : Form → List ℕ → Bool → List ℕ → List ℕ → Outcome → Type 0
Tells form reply ended rest text (Complete n) =
    (body : List ℕ) × (v : Verdict) × Delivers reply ended body rest × IsVerdict form body v × (outcome_of (length body) v ≡ Complete n) × (text ≡ text_shown n v)
Tells form reply ended rest text (ServerError code message) =
    (body : List ℕ) × Delivers reply ended body rest × IsVerdict form body (server_error (record { code = code; message = message })) × (text ≡ [])
Tells form reply ended rest text (BadReply field) =
    BringsBad form (λ body. BringsFirst reply body) field text
    ⊎ (DeliversBad form (λ body. Delivers reply ended body rest) field text ⊎ BreaksBad form (λ body wrong. BreaksOff reply ended body wrong) field text)
Tells form reply ended rest text ReadFault =
    (body : List ℕ) × Brings reply body × ShowsStopped form body text
Tells form reply ended rest text WriteFault = ShowsUnput form reply ended rest text
Tells form reply ended rest text LinkFault = ⊥
Tells form reply ended rest text Memory = (text ≡ []) × (form ≡ dods_form → TakesFewValues reply)
