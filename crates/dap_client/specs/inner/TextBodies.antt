-- A front of a body that is a DDS or a DAS, in pieces, or of an Error object in its place.
use Rattle.std.specs.Prelude.{◌≡◌, ℕ, ⊤, true, List, ◌++◌, take, Option}
use Rattle.std.specs.Io.KnownBytes.{Appends}
use Rattle.dap_outside.specs.Streams.{AppendsFront}
use Rattle.das_text.specs.View.{attributes_view}
use Rattle.dap_errors.specs.Reading.{limit}
use Rattle.dap_types.specs.View.{dataset_view}
use Rattle.reply_faults.specs.declared.bad.BadField.{BadField}
use Rattle.dap_client.specs.Replies.{first_of}
use Rattle.dap_client.specs.Verdict.{Form, Verdict, Judges, bad, das_form, dds_form, dods_form, good_das, good_dds, is_fault, server_error}
use Rattle.dap_client.specs.inner.DasBodies.{IsDasBody}
use Rattle.dap_client.specs.inner.DdsBodies.{IsDdsBody}
use Rattle.error_word.specs.inner.FirstWords.{IsError, IsNoError, IsOpenWord}
use Rattle.dap_client.specs.inner.Objects.{IsObjectOf}
use Rattle.dap_client.specs.inner.Openings.{IsOpening}
use Rattle.dap_client.specs.declared.outcome.Outcome.{Outcome}
use Rattle.dap_client.specs.declared.outcome.Outcome.TheVariants as outcome
use Rattle.dap_client.specs.declared.text_body.TextBody.{TextBody}
use Rattle.dap_client.specs.declared.text_body.TextBody.TheVariants as body
use Rattle.dap_client.specs.declared.text_body.TextEnded.{TextEnded}
use Rattle.dap_client.specs.declared.text_body.TextEnded.TheVariants as ended
use Rattle.dap_client.specs.declared.text_stage.TextStage.{TextStage}
use Rattle.dap_client.specs.declared.text_stage.TextStage.TheVariants as stage

-- of a text that is no Error object
abbrev pub IsTextBody : Form → TextBody → List ℕ → Type 0
IsTextBody form (body.Dds dds) bytes = (form ≡ dds_form) × IsDdsBody bytes dds
IsTextBody form (body.Das opening das) bytes = (form ≡ das_form) × IsOpening opening bytes × IsDasBody bytes das

-- this is wrong, whatever follows
pub record IsWrong (form : Form) (field : BadField) (bytes : List ℕ) : Type 0 where
  pub stays : (more : List ℕ) → Judges form (bytes ++ more) (bad field.kind field.place)
  pub is_fault : is_fault field.kind ≡ true

-- the text goes on; or the first word is not known yet, or is `Error`
abbrev pub IsTextStage : Form → TextStage → List ℕ → Type 0
IsTextStage form (stage.First word front text) bytes = IsOpenWord word bytes × (front.items ≡ take limit bytes) × IsTextBody form text bytes
IsTextStage form (stage.Error object) bytes = IsError bytes × IsObjectOf bytes object
IsTextStage form (stage.Text text) bytes = IsNoError bytes × IsTextBody form text bytes
IsTextStage form (stage.Wrong field) bytes = IsWrong form field bytes
IsTextStage form stage.Spent bytes = ⊤

-- what the bytes are, where they end. Want of memory says nothing
abbrev pub IsTextEnded : Form → List ℕ → TextEnded → Type 0
IsTextEnded form bytes (ended.Dds d) = (form ≡ dds_form) × Judges dds_form bytes (good_dds (dataset_view d))
IsTextEnded form bytes (ended.Das a) = (form ≡ das_form) × Judges das_form bytes (good_das (attributes_view a))
IsTextEnded form bytes (ended.ServerError e) = Judges form bytes (server_error e)
IsTextEnded form bytes (ended.Bad field) = Judges form bytes (bad field.kind field.place)
IsTextEnded form bytes ended.Memory = ⊤

-- something else is asked for than a data response
abbrev pub IsText : Form → Type 0
IsText dods_form = ⊥
IsText dds_form = ⊤
IsText das_form = ⊤

-- what is wrong first with bytes behind which that is wrong
abbrev pub IsFirstWrong : Form → List ℕ → BadField → Outcome → Type 0
IsFirstWrong form bytes wrong (outcome.BadReply field) = (front : Verdict) × Judges form bytes front × (bad field.kind field.place ≡ first_of front wrong)
IsFirstWrong form bytes wrong outcome.Memory = ⊤
IsFirstWrong form bytes wrong o = ⊥

-- a text was put, or where the sink failed a front of it
abbrev pub IsPut : List ℕ → ℕ → Option (List ℕ) → Option (List ℕ) → Outcome → Type 0
IsPut text n before now (outcome.Complete m) = (m ≡ n) × Appends before now text
IsPut text n before now outcome.WriteFault = AppendsFront before now text
IsPut text n before now o = ⊥
