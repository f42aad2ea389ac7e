-- What the reader of a data response says of a body of that kind.
use Rattle.std.proofs.Common.{◌≡◌, ℕ, ◌+◌, ◌≤◌, true, List, [], ◌++◌, length, take, refl, sym, ap, subst, ◌∙◌, append-nil, inl, inr, ◌⊎◌, Result, Err, Some}
use Rattle.std.proofs.lemmas.Bool.{false≢true}
use Rattle.plain_lemmas.proofs.Lists.{none_in_front}
use Rattle.dap_types.specs.Model.{Dataset}
use Rattle.dap_types.specs.View.{dataset_view}
use Rattle.dap_model.proofs.Partly.{part_is_of_lines}
use Rattle.dap_model.specs.Dds.{dds, line}
use Rattle.dap_model.specs.Partly.{ShowsLines}
use Rattle.dap_model.specs.Received.{HasHead}
use Rattle.xdr_decode.specs.After as decoding
use Rattle.xdr_decode.specs.Verdict.{budget}
use Rattle.reply_faults.specs.declared.bad.BadField.{BadField}
use Rattle.dap_client.proofs.Begun.{error_no_head}
use Rattle.dap_client.proofs.DataLines.{unended}
use Rattle.dap_client.proofs.Ending.{refused_verdict}
use Rattle.dap_client.proofs.Filling.{values_lines}
use Rattle.dap_client.proofs.Lines.{cut_no_head, line_cut}
use Rattle.dap_client.proofs.Texts.{open_no_head}
use Rattle.dap_client.proofs.Within.{verdict_within}
use Rattle.dap_client.specs.After.{IsBrokenOff, IsFinished, IsPart, IsStopped}
use Rattle.dap_client.specs.Answered.{IsLasting, ShowsStopped}
use Rattle.dap_client.specs.Outcomes.{OnWriteFault}
use Rattle.dap_client.specs.Replies.{first_of}
use Rattle.dap_client.specs.Shows.{StopsWithin}
use Rattle.dap_client.specs.Verdict.{Form, IsVerdict, bad, das_form, dds_form, dods_form, good, server_error}
use Rattle.dap_client.specs.inner.TextBodies.{IsText}
use Rattle.dap_client.specs.declared.part.Part.{Part}
use Rattle.dap_client.specs.declared.part.Part.TheVariants as part
use Rattle.dap_client.specs.inner.Readers as readers
use Rattle.dap_client.specs.inner.Stages.{IsFull, IsDataRefused, IsStage, is_open_stage}
use Rattle.dap_client.specs.declared.outcome.Outcome.{Outcome}
use Rattle.dap_client.specs.declared.outcome.Outcome.TheVariants.{Complete, ServerError, BadReply, ReadFault, WriteFault, LinkFault, Memory}
use Rattle.dap_client.specs.declared.reader.BodyReader.{BodyReader}
use Rattle.dap_client.specs.declared.reader.Ended.{Ended}
use Rattle.dap_client.specs.declared.reader.Ended.TheVariants as ended
use Rattle.dap_errors.specs.declared.object.ErrorObject.{ErrorObject}
use Rattle.dap_client.specs.declared.stage.Stage.{Stage}
use Rattle.dap_client.specs.declared.stage.Stage.TheVariants as stage

-- ---- what was put by then

-- a DDS has some bytes
dds_some : (d : Dataset) (lines : List ℕ) → [] ≡ dds d ++ lines → ⊥
unfolding dds line
dds_some d lines is = cc

pub no_head : (s : Stage) (bytes : List ℕ) → is_open_stage s ≡ true → IsStage s bytes [] → ¬ (HasHead bytes)
no_head (stage.First word front reader) bytes on (first, none) = open_no_head word bytes first.is_word
no_head (stage.Error object) bytes on (error, is, none) = λ h. error_no_head bytes bytes [] error (sym (append-nil bytes)) h
no_head (stage.Text reader) bytes on (error, had, unfinished, none) = cut_no_head bytes (inl unfinished)
no_head (stage.Line dataset line) bytes on (error, o, none) = cut_no_head bytes (line_cut (dataset_view dataset) line bytes o (unended line.come o.rest o.is_front))
no_head (stage.Values decoder) bytes on (error, values) = absurd (dds_some (decoding.dataset_of decoder) values.begun.lines values.begun.is_put)
no_head (stage.Refused field) bytes on is = absurd (false≢true on)
no_head (stage.Full field) bytes on is = absurd (false≢true on)
no_head stage.Failed bytes on is = absurd (false≢true on)
no_head stage.Spent bytes on is = absurd (false≢true on)

nothing_shown : (bytes put : List ℕ) → put ≡ [] → ¬ (HasHead bytes) → ShowsLines bytes put
nothing_shown bytes put none head = inr (head, none)

pub open_shows : (s : Stage) (bytes put : List ℕ) → is_open_stage s ≡ true → IsStage s bytes put → ShowsLines bytes put
open_shows (stage.First word front reader) bytes put on (first, none) = nothing_shown bytes put none (open_no_head word bytes first.is_word)
open_shows (stage.Error object) bytes put on (error, is, none) = nothing_shown bytes put none (λ h. error_no_head bytes bytes [] error (sym (append-nil bytes)) h)
open_shows (stage.Text reader) bytes put on (error, had, unfinished, none) = nothing_shown bytes put none (cut_no_head bytes (inl unfinished))
open_shows (stage.Line dataset line) bytes put on (error, o, none) = nothing_shown bytes put none (cut_no_head bytes (line_cut (dataset_view dataset) line bytes o (unended line.come o.rest o.is_front)))
open_shows (stage.Values decoder) bytes put on (error, values) = values_lines decoder bytes put values
open_shows (stage.Refused field) bytes put on is = absurd (false≢true on)
open_shows (stage.Full field) bytes put on is = absurd (false≢true on)
open_shows stage.Failed bytes put on is = absurd (false≢true on)
open_shows stage.Spent bytes put on is = absurd (false≢true on)

pub stops_within : (bytes put : List ℕ) → ShowsLines bytes put → StopsWithin bytes put
stops_within bytes put shows = (bytes, [], sym (append-nil bytes), (part_is_of_lines bytes put).1 put shows ([], sym (append-nil put)))

-- ---- a stage that looks at no further bytes

pub refused_stopped : (field : BadField) (before bytes put : List ℕ) → length bytes ≤ budget → IsDataRefused field bytes put → IsStopped dods_form before bytes put (BadReply field)
refused_stopped field before bytes put most r =
    let lasting : IsLasting dods_form bytes field = refused_verdict field bytes put most r in
    (verdict_within dods_form bytes field.kind field.place (subst (λ l. IsVerdict dods_form l (bad field.kind field.place)) (append-nil bytes) (lasting [])), lasting, r.shows)

pub full_data : (field : BadField) (before bytes put : List ℕ) → IsFull field bytes put → IsStopped dods_form before bytes put (BadReply field)
full_data field before bytes put f =
    (verdict_within dods_form bytes field.kind field.place (subst (λ l. IsVerdict dods_form l (bad field.kind field.place)) (append-nil bytes) (f.stays [])), f.stays, f.shows)

-- where nothing was put, no `Data:` line had come before
pub no_head_before : (r : BodyReader) (bytes put text : List ℕ) → readers.is_open r ≡ true → readers.ReaderStandsAfter r bytes put → put ++ text ≡ [] → ¬ (HasHead bytes)
no_head_before r bytes put text on s none = no_head r.stage bytes on (subst (IsStage r.stage bytes) (none_in_front put text none) s.is_stage)

-- ---- the body ends

pub data_finished : (r : BodyReader) (bytes put text : List ℕ) (o : Outcome) → readers.is_open r ≡ true → readers.ReaderStandsAfter r bytes put → readers.IsFinished bytes put text o → IsFinished dods_form bytes (put ++ text) o
data_finished r bytes put text (Complete n) on s (long, (d, ts, v, is)) = (good d ts, v, ap Complete (sym long), sym is)
data_finished r bytes put text (ServerError code message) on s ((v, none), empty) = (v, ap (λ l. l ++ text) none ∙ empty)
data_finished r bytes put text (BadReply field) on s ((v, shows), empty) = (v, subst (λ l. ShowsLines (take field.place bytes) l) (sym (append-nil put) ∙ ap (λ l. put ++ l) (sym empty)) shows)
data_finished r bytes put text ReadFault on s none = absurd none
data_finished r bytes put text WriteFault on s broken = broken
data_finished r bytes put text LinkFault on s none = absurd none
data_finished r bytes put text Memory on s ((few, none), empty) =
    let nothing : put ++ text ≡ [] = ap (λ l. l ++ text) none ∙ empty in
    (nothing, λ is. no_head_before r bytes put text on s nothing)

-- ---- by the outcome

pub on_write_fault : (P : Type 0) (o : Outcome) → o ≡ WriteFault → OnWriteFault P o → P
on_write_fault P o is on = subst (OnWriteFault P) is on

pub err_same : {A : Type 0} (x y : Outcome) → ◌≡◌ {A = Result A Outcome} (Err x) (Err y) → x ≡ y
err_same x y is = cc

-- what was put by the end of the body
pub whole_broken : (bytes put : List ℕ) (wrong : BadField) → readers.IsEnded bytes put ended.Whole → ShowsLines bytes put → IsBrokenOff dods_form bytes put wrong (BadReply wrong)
whole_broken bytes put wrong (d, ts, v, is) shows = (good d ts, v, refl, shows)

pub error_broken : (bytes put : List ℕ) (wrong : BadField) (e : ErrorObject) → readers.IsEnded bytes put (ended.ServerError e) → ShowsLines bytes put → IsBrokenOff dods_form bytes put wrong (BadReply wrong)
error_broken bytes put wrong e (v, none) shows = (server_error e, v, refl, shows)

pub bad_broken : (bytes put : List ℕ) (field wrong first : BadField) → bad first.kind first.place ≡ first_of (bad field.kind field.place) wrong → readers.IsEnded bytes put (ended.Bad field) → IsBrokenOff dods_form bytes put wrong (BadReply first)
bad_broken bytes put field wrong first is (v, shows) = (bad field.kind field.place, v, is, shows)

not_failed : (r : BodyReader) → readers.is_open r ≡ true → ¬ (readers.HasFailed r)
not_failed r on failed = false≢true (sym (ap is_open_stage failed) ∙ on)

pub data_fault : (r : BodyReader) (P : Type 0) (o : Outcome) → readers.is_open r ≡ true → OnWriteFault (readers.HasFailed r ⊎ P) o → OnWriteFault P o
data_fault r P WriteFault on (inl failed) = absurd (not_failed r on failed)
data_fault r P WriteFault on (inr rose) = rose
data_fault r P (Complete n) on cause = tt
data_fault r P (ServerError code message) on cause = tt
data_fault r P (BadReply field) on cause = tt
data_fault r P ReadFault on cause = tt
data_fault r P LinkFault on cause = tt
data_fault r P Memory on cause = tt

pub no_write_fault : (r : BodyReader) (e : Ended) → readers.is_open r ≡ true → readers.WhereWriteFault (readers.HasFailed r) e → ¬ (e ≡ ended.WriteFault)
no_write_fault r e on failed is = not_failed r on (subst (readers.WhereWriteFault (readers.HasFailed r)) is failed)

-- ---- where no more could be read

nothing_stopped : (form : Form) (bytes put : List ℕ) → IsText form → put ≡ [] → ShowsStopped form bytes put
nothing_stopped dods_form bytes put text none = absurd text
nothing_stopped dds_form bytes put text none = none
nothing_stopped das_form bytes put text none = none

pub leaves : (form : Form) (p : Part) (bytes put : List ℕ) → IsPart form p bytes put → ShowsStopped form bytes put
leaves form (part.Data reader) bytes put (same, s, on) = subst (λ (f : Form). ShowsStopped f bytes put) (sym same) (stops_within bytes put (open_shows reader.stage bytes put on s.is_stage))
leaves form (part.Text stage) bytes put (text, s, none) = nothing_stopped form bytes put text none

pub err_some : {A : Type 0} (x y : Outcome) → Some x ≡ Some y → ◌≡◌ {A = Result A Outcome} (Err x) (Err y)
err_some x y is = cc

pub some_err : {A : Type 0} (x y : Outcome) → ◌≡◌ {A = Result A Outcome} (Err x) (Err y) → Some x ≡ Some y
some_err x y is = cc

pub some_same : (x y : Outcome) → Some x ≡ Some y → x ≡ y
some_same x y is = cc
