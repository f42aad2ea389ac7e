-- What the outcome of a showing says, by its kind.
use Rattle.std.proofs.Common.{◌≡◌, ℕ, ◌+◌, ◌-◌, ◌<◌, ◌≤◌, true, false, List, [], ◌++◌, length, take, drop, codes, Option, Some, None, Result, Ok, Err, OnErr, refl, sym, ap, subst, ◌∙◌, append-nil, length-append, inl, inr, ◌⊎◌, ⊎_elim, arith}
use Rattle.std.proofs.KnownBytes.{Appends-trans, Appends-nil, Consumes-nil, Consumes-trans}
use Rattle.std.proofs.lemmas.Bool.{false≢true}
use Rattle.std.proofs.lemmas.List.{take-append-drop}
use Rattle.std.specs.Io.KnownBytes.{Appends, Consumes, IsAtEnd}
use Rattle.dap_types.specs.Model.{Dataset, Tree}
use Rattle.dap_model.specs.Partly.{ShowsLines}
use Rattle.dap_model.specs.Received.{HasHead}
use Rattle.dap_model.specs.Shown.{shown}
use Rattle.dap_model.proofs.Partly.{part_is_of_lines}
use Rattle.dap_outside.specs.Causes.{Rose}
use Rattle.reply_faults.specs.declared.bad.Bad.{Bad}
use Rattle.reply_faults.specs.declared.bad.Bad.TheVariants.{BadHead, HeadTooLong, Coded, BadChunk, BadDds, BadDataLine, BadDas, BadError, BadCount, BadWord, BadPadding, WrongMark, Cut, Trailing, TooLong}
use Rattle.reply_faults.specs.declared.bad.BadField.{BadField}
use Rattle.dap_client.proofs.Filling.{budget_is, values_lines}
use Rattle.dap_client.proofs.OneVerdict.{one_verdict}
use Rattle.dap_client.specs.Outcomes.{Answers, OnBadReply, OnComplete, OnLinkFault, OnMemory, OnReadFault, OnServerError, OnWriteFault, WhereNothingPut, WhereWhole, outcome_of}
use Rattle.dap_client.specs.Shows.{BreaksOff, Gains, HasFewValues, IsWrongTaken, StopsWithin, Takes}
use Rattle.dap_client.specs.Verdict.{Verdict, IsVerdict, bad, dods_form, good, server_error}
use Rattle.dap_client.specs.inner.Readers.{HasFailed, IsFinished, Stands, ReaderStandsAfter, StaysBadReply, is_open, taken_of}
use Rattle.dap_client.specs.inner.Showing.{Reads, ReadsOn}
use Rattle.dap_client.specs.inner.Stages.{IsStage, is_open_stage}
use Rattle.dap_client.specs.declared.outcome.Outcome.{Outcome}
use Rattle.dap_client.specs.declared.outcome.Outcome.TheVariants.{Complete, ServerError, BadReply, ReadFault, WriteFault, LinkFault, Memory}
use Rattle.dap_client.specs.declared.reader.BodyReader.{BodyReader}
use Rattle.dap_client.specs.declared.stage.Stage.{Stage}
use Rattle.dap_client.specs.declared.stage.Stage.TheVariants as stage

-- ---- what was put before a source failed
no_head : (text white end values : List ℕ) → [] ≡ (text ++ white ++ codes "Data:" ++ end) ++ values → ⊥
no_head text white end values is =
    let long : 0 ≡ length ((text ++ white ++ codes "Data:" ++ end) ++ values) = ap length is in
    omega (
      arith,
      long,
      length-append (text ++ white ++ codes "Data:" ++ end) values,
      length-append (text ++ white ++ codes "Data:") end,
      length-append (text ++ white) (codes "Data:"),
    )

pub nothing_no_head : ¬ (HasHead [])
nothing_no_head (head, values, d, parts, h) = no_head h.text h.white h.end values (parts ∙ ap (λ l. l ++ values) h.parts)

pub nothing_stops : (bytes put : List ℕ) → put ≡ [] → StopsWithin bytes put
nothing_stops bytes put none = ([], bytes, refl, inr (nothing_no_head, none))

lines_stop : (bytes front rest put : List ℕ) → bytes ≡ front ++ rest → ShowsLines front put → StopsWithin bytes put
lines_stop bytes front rest put parts lines = (front, rest, parts, (part_is_of_lines front put).1 put lines ([], sym (append-nil put)))

take_stops : (bytes put : List ℕ) (place : ℕ) → ShowsLines (take place bytes) put → StopsWithin bytes put
take_stops bytes put place lines = lines_stop bytes (take place bytes) (drop place bytes) put (sym (take-append-drop place bytes)) lines

pub stage_stops : (s : Stage) (bytes put : List ℕ) → IsStage s bytes put → StopsWithin bytes put
stage_stops (stage.First word front reader) bytes put (first, none) = nothing_stops bytes put none
stage_stops (stage.Error object) bytes put (error, is, none) = nothing_stops bytes put none
stage_stops (stage.Text reader) bytes put (error, had, unfinished, none) = nothing_stops bytes put none
stage_stops (stage.Line dataset line) bytes put (error, in_line, none) = nothing_stops bytes put none
stage_stops (stage.Values decoder) bytes put (error, values) = lines_stop bytes bytes [] put (sym (append-nil bytes)) (values_lines decoder bytes put values)
stage_stops (stage.Refused field) bytes put r = take_stops bytes put field.place r.shows
stage_stops (stage.Full field) bytes put f = take_stops bytes put field.place f.shows
stage_stops stage.Failed bytes put stops = stops
stage_stops stage.Spent bytes put (few, none) = nothing_stops bytes put none

-- nothing was taken and put
pub none_read : (left now written : Option (List ℕ)) (reader : BodyReader) (bytes put : List ℕ) → Consumes left now [] → ReaderStandsAfter reader bytes put → ReadsOn left now written written reader bytes put
none_read left now written reader bytes put took s =
    ([], [], took, Appends-nil written, subst (λ l. ReaderStandsAfter reader (bytes ++ []) l) (sym (append-nil put)) (subst (λ l. ReaderStandsAfter reader l put) (sym (append-nil bytes)) s))

-- a piece, and what was read before it
pub reads_on : (left mid now written between text : Option (List ℕ)) (before reader : BodyReader) → Reads left mid written between before
    → ((bytes put : List ℕ) → ReaderStandsAfter before bytes put → ReadsOn mid now between text reader bytes put) → Reads left now written text reader
reads_on left mid now written between text before reader (bytes, put, took, gained, s) on =
    let (more, further, taken, sent, stands) = on bytes put s in
    (bytes ++ more, put ++ further, Consumes-trans left mid now bytes more took taken, Appends-trans written between text put further gained sent, stands)

pub some_reads : (left now written text : Option (List ℕ)) (reader : BodyReader) → Reads left now written text reader → Stands reader
some_reads left now written text reader (bytes, put, took, gained, s) = (bytes, put, s)

pub still_short : (reader : BodyReader) → Stands reader → is_open reader ≡ true → taken_of reader < 1099511627776
still_short reader (bytes, put, s) on = omega (arith, s.within on, s.taken, budget_is)

-- ---- what was taken and put, and the outcome of it
pub record Ends (left now written text : Option (List ℕ)) (Closed : Type 0) (o : Outcome) : Type 0 where
  pub bytes : List ℕ
  pub before : List ℕ
  pub last : List ℕ
  pub took : Consumes left now bytes
  pub gained : Appends written text (before ++ last)
  pub finished : IsFinished bytes before last o
  pub stays : Closed → StaysBadReply bytes o

pub ends : (left now written mid text : Option (List ℕ)) (Closed : Type 0) (o : Outcome) (bytes put : List ℕ) → Consumes left now bytes → Appends written mid put → Gains mid text (λ last. IsFinished bytes put last o)
    → (Closed → StaysBadReply bytes o) → Ends left now written text Closed o
ends left now written mid text Closed o bytes put took gained (last, sent, finished) stays =
    record { bytes = bytes; before = put; last = last; took = took; gained = Appends-trans written mid text put last gained sent; finished = finished; stays = stays }

pub told : (left now written mid text : Option (List ℕ)) (reader : BodyReader) (o : Outcome) → Reads left now written mid reader → ((bytes put : List ℕ) → ReaderStandsAfter reader bytes put → Gains mid text (λ last. IsFinished bytes put last o))
    → ((bytes put : List ℕ) → ReaderStandsAfter reader bytes put → is_open reader ≡ false → StaysBadReply bytes o) → Ends left now written text (is_open reader ≡ false) o
told left now written mid text reader o (bytes, put, took, gained, s) finished stays = ends left now written mid text (is_open reader ≡ false) o bytes put took gained (finished bytes put s) (stays bytes put s)

pub stopped : (left now written text : Option (List ℕ)) (reader : BodyReader) → Reads left now written text reader → Takes left now (λ taken. Gains written text (StopsWithin taken))
stopped left now written text reader (bytes, put, took, gained, s) = (bytes, took, (put, gained, stage_stops reader.stage bytes put s.is_stage))

pub open_not_failed : (reader : BodyReader) → is_open reader ≡ true → HasFailed reader → ⊥
open_not_failed reader on failed = false≢true (sym (ap is_open_stage failed) ∙ on)

pub rose_only : (reader : BodyReader) (a b : ℕ) → is_open reader ≡ true → HasFailed reader ⊎ Rose a b → Rose a b
rose_only reader a b on cause = ⊎_elim (λ failed. absurd (open_not_failed reader on failed)) (λ rose. rose) cause

pub on_complete : (left now written text : Option (List ℕ)) (Closed : Type 0) (o : Outcome) → Ends left now written text Closed o
    → OnComplete (λ n. Takes left now (λ body. (length body ≡ n) × ((d : Dataset) × (ts : List Tree) × IsVerdict dods_form body (good d ts) × Appends written text (shown d ts n)))) o
on_complete left now written text Closed (Complete n) e =
    let (is, (d, ts, v, all)) = e.finished in (e.bytes, e.took, (sym is, (d, ts, v, subst (Appends written text) (sym all) e.gained)))
on_complete left now written text Closed (ServerError code message) e = tt
on_complete left now written text Closed (BadReply field) e = tt
on_complete left now written text Closed ReadFault e = tt
on_complete left now written text Closed LinkFault e = tt
on_complete left now written text Closed WriteFault e = tt
on_complete left now written text Closed Memory e = tt

pub on_server_error : (left now written text : Option (List ℕ)) (Closed : Type 0) (o : Outcome) → Ends left now written text Closed o
    → OnServerError (λ code message. Takes left now (λ body. IsVerdict dods_form body (server_error (record { code = code; message = message })))) o
on_server_error left now written text Closed (Complete n) e = tt
on_server_error left now written text Closed (ServerError code message) e = (e.bytes, e.took, e.finished.0.0)
on_server_error left now written text Closed (BadReply field) e = tt
on_server_error left now written text Closed ReadFault e = tt
on_server_error left now written text Closed LinkFault e = tt
on_server_error left now written text Closed WriteFault e = tt
on_server_error left now written text Closed Memory e = tt

pub on_bad_reply : (left now written text : Option (List ℕ)) (Closed Ended AtEnd : Type 0) (o : Outcome) → Ends left now written text Closed o → Closed ⊎ (Ended × AtEnd)
    → OnBadReply (λ field. Takes left now (λ taken. IsWrongTaken Ended AtEnd field taken × Gains written text (ShowsLines (take field.place taken)))) o
on_bad_reply left now written text Closed Ended AtEnd (Complete n) e end = tt
on_bad_reply left now written text Closed Ended AtEnd (ServerError code message) e end = tt
on_bad_reply left now written text Closed Ended AtEnd (BadReply field) e end =
    let ((v, shows), none) = e.finished in (
      e.bytes,
      e.took,
      (⊎_elim (λ closed. inr (e.stays closed).0) (λ at. inl (at.0, at.1, v)) end, (e.before ++ e.last, e.gained, subst (ShowsLines (take field.place e.bytes)) (sym (ap (λ l. e.before ++ l) none ∙ append-nil e.before)) shows)),
    )
on_bad_reply left now written text Closed Ended AtEnd ReadFault e end = tt
on_bad_reply left now written text Closed Ended AtEnd LinkFault e end = tt
on_bad_reply left now written text Closed Ended AtEnd WriteFault e end = tt
on_bad_reply left now written text Closed Ended AtEnd Memory e end = tt

-- whatever is told but a fault, all was taken or what is wrong stays so
at_end : (Closed AtEnd : Type 0) → (Closed → ⊥) → Closed ⊎ AtEnd → AtEnd
at_end Closed AtEnd never end = ⊎_elim (λ closed. absurd (never closed)) (λ at. at) end

where_cut : (AtEnd : Type 0) (field : BadField) → ((field.kind ≡ Cut) → AtEnd) → WhereWhole AtEnd (BadReply field)
where_cut AtEnd field at = by field.kind at
  where
    by : (kind : Bad) → (kind ≡ Cut → AtEnd) → WhereWhole AtEnd (BadReply (record { kind = kind; place = field.place }))
    by BadHead at = tt
    by HeadTooLong at = tt
    by Coded at = tt
    by BadChunk at = tt
    by BadDds at = tt
    by BadDataLine at = tt
    by BadDas at = tt
    by BadError at = tt
    by BadCount at = tt
    by BadWord at = tt
    by BadPadding at = tt
    by WrongMark at = tt
    by Cut at = at refl
    by Trailing at = tt
    by TooLong at = tt

pub where_whole : (left now written text : Option (List ℕ)) (Closed AtEnd : Type 0) (o : Outcome) → Ends left now written text Closed o → Closed ⊎ AtEnd → WhereWhole AtEnd o
where_whole left now written text Closed AtEnd (Complete n) e end = at_end Closed AtEnd e.stays end
where_whole left now written text Closed AtEnd (ServerError code message) e end = at_end Closed AtEnd e.stays end
where_whole left now written text Closed AtEnd (BadReply field) e end = where_cut AtEnd field (λ cut. at_end Closed AtEnd (λ closed. (e.stays closed).1 cut) end)
where_whole left now written text Closed AtEnd ReadFault e end = tt
where_whole left now written text Closed AtEnd LinkFault e end = tt
where_whole left now written text Closed AtEnd WriteFault e end = tt
where_whole left now written text Closed AtEnd Memory e end = tt

-- ---- whatever the verdict on the bytes is, it is told
all_taken : (now : Option (List ℕ)) (body bytes : List ℕ) → Consumes (Some body) now bytes → IsAtEnd now → body ≡ bytes
all_taken None body bytes took at = absurd took
all_taken (Some rest) body bytes took at = took ∙ ap (λ l. bytes ++ l) at ∙ append-nil bytes

pub some_left : (now : Option (List ℕ)) (body bytes : List ℕ) → Consumes (Some body) now bytes → (rest : List ℕ) × (body ≡ bytes ++ rest)
some_left None body bytes took = absurd took
some_left (Some rest) body bytes took = (rest, took)

-- what stays wrong is wrong with all bytes
wrong_with_all : (now : Option (List ℕ)) (body bytes : List ℕ) (v : Verdict) → Consumes (Some body) now bytes → ((more : List ℕ) → IsVerdict dods_form (bytes ++ more) v) → IsVerdict dods_form body v
wrong_with_all now body bytes v took stays = let (rest, is) = some_left now body bytes took in subst (λ l. IsVerdict dods_form l v) (sym is) (stays rest)

told_of : (body : List ℕ) (v w : Verdict) (o : Outcome) → IsVerdict dods_form body v → IsVerdict dods_form body w → o ≡ outcome_of (length body) w → o ≡ outcome_of (length body) v
told_of body v w o a b is = is ∙ ap (outcome_of (length body)) (one_verdict dods_form body w v b a)

only_told : (now written text : Option (List ℕ)) (Closed AtEnd : Type 0) (o : Outcome) (body : List ℕ) (v : Verdict) → Ends (Some body) now written text Closed o → Closed ⊎ AtEnd → (AtEnd → IsAtEnd now) → IsVerdict dods_form body v
    → Answers (length body) v o
only_told now written text Closed AtEnd (Complete n) body v e end at is =
    let all : body ≡ e.bytes = all_taken now body e.bytes e.took (at (at_end Closed AtEnd e.stays end)) in
    let (long, (d, ts, w, shows)) = e.finished in
    told_of body v (good d ts) (Complete n) is (subst (λ l. IsVerdict dods_form l (good d ts)) (sym all) w) (ap (λ m. Complete m) (long ∙ sym (ap length all)))
only_told now written text Closed AtEnd (ServerError code message) body v e end at is =
    let all : body ≡ e.bytes = all_taken now body e.bytes e.took (at (at_end Closed AtEnd e.stays end)) in
    let w = e.finished.0.0 in
    told_of body v (server_error (record { code = code; message = message })) (ServerError code message) is (subst (λ l. IsVerdict dods_form l (server_error (record { code = code; message = message }))) (sym all) w) refl
only_told now written text Closed AtEnd (BadReply field) body v e end at is =
    let w = bad field.kind field.place in
    let wrong : IsVerdict dods_form body w = ⊎_elim
    (λ closed. wrong_with_all now body e.bytes w e.took (e.stays closed).0)
    (λ here. subst (λ l. IsVerdict dods_form l w) (sym (all_taken now body e.bytes e.took (at here))) e.finished.0.0)
    end in
    told_of body v w (BadReply field) is wrong refl
only_told now written text Closed AtEnd ReadFault body v e end at is = tt
only_told now written text Closed AtEnd LinkFault body v e end at is = absurd e.finished
only_told now written text Closed AtEnd WriteFault body v e end at is = tt
only_told now written text Closed AtEnd Memory body v e end at is = tt

pub only_answers : (left now written text : Option (List ℕ)) (Closed AtEnd : Type 0) (o : Outcome) (body : List ℕ) (v : Verdict) → left ≡ Some body → Ends left now written text Closed o → Closed ⊎ AtEnd → (AtEnd → IsAtEnd now)
    → IsVerdict dods_form body v → Answers (length body) v o
only_answers left now written text Closed AtEnd o body v has e end at is = only_told now written text Closed AtEnd o body v (subst (λ l. Ends l now written text Closed o) has e) end at is

-- ---- faults, and want of memory
pub never_read : (left now written text : Option (List ℕ)) (Closed P : Type 0) (o : Outcome) → Ends left now written text Closed o → OnReadFault P o
never_read left now written text Closed P (Complete n) e = tt
never_read left now written text Closed P (ServerError code message) e = tt
never_read left now written text Closed P (BadReply field) e = tt
never_read left now written text Closed P ReadFault e = absurd e.finished
never_read left now written text Closed P LinkFault e = tt
never_read left now written text Closed P WriteFault e = tt
never_read left now written text Closed P Memory e = tt

pub never_link : (left now written text : Option (List ℕ)) (Closed P : Type 0) (o : Outcome) → Ends left now written text Closed o → OnLinkFault P o
never_link left now written text Closed P (Complete n) e = tt
never_link left now written text Closed P (ServerError code message) e = tt
never_link left now written text Closed P (BadReply field) e = tt
never_link left now written text Closed P ReadFault e = tt
never_link left now written text Closed P WriteFault e = tt
never_link left now written text Closed P LinkFault e = absurd e.finished
never_link left now written text Closed P Memory e = tt

pub on_write_fault : (left now written text : Option (List ℕ)) (Closed : Type 0) (o : Outcome) → Ends left now written text Closed o → OnWriteFault (Takes left now (λ taken. Gains written text (BreaksOff taken))) o
on_write_fault left now written text Closed (Complete n) e = tt
on_write_fault left now written text Closed (ServerError code message) e = tt
on_write_fault left now written text Closed (BadReply field) e = tt
on_write_fault left now written text Closed ReadFault e = tt
on_write_fault left now written text Closed LinkFault e = tt
on_write_fault left now written text Closed WriteFault e = (e.bytes, e.took, (e.before ++ e.last, e.gained, e.finished))
on_write_fault left now written text Closed Memory e = tt

pub on_memory : (left now written text : Option (List ℕ)) (Closed : Type 0) (o : Outcome) → Ends left now written text Closed o → OnMemory (Takes left now (HasFewValues 65536)) o
on_memory left now written text Closed (Complete n) e = tt
on_memory left now written text Closed (ServerError code message) e = tt
on_memory left now written text Closed (BadReply field) e = tt
on_memory left now written text Closed ReadFault e = tt
on_memory left now written text Closed LinkFault e = tt
on_memory left now written text Closed WriteFault e = tt
on_memory left now written text Closed Memory e = (e.bytes, e.took, e.finished.0.0)

pub none_taken : (left : Option (List ℕ)) → Takes left left (HasFewValues 65536)
none_taken left = ([], Consumes-nil left, λ d head values h. none head values h.1)
  where
    none : (head values : List ℕ) → [] ≡ head ++ values → length values ≤ 65536
    none head values is = omega (arith, ap length is, length-append head values)

pub rose_on : (a b c : ℕ) → b ≤ c → Rose a b → Rose a c
rose_on a b c le rose = omega (arith, le, rose)

pub rose_later : (a b c : ℕ) → a ≤ b → Rose b c → Rose a c
rose_later a b c le rose = omega (arith, le, rose)

pub rose_by : (a b c : ℕ) (Failed : Type 0) (o : Outcome) → a ≤ b → b ≤ c → (Failed → Rose a b) → OnWriteFault (Failed ⊎ Rose b c) o → OnWriteFault (Rose a c) o
rose_by a b c Failed (Complete n) first second failed cause = tt
rose_by a b c Failed (ServerError code message) first second failed cause = tt
rose_by a b c Failed (BadReply field) first second failed cause = tt
rose_by a b c Failed ReadFault first second failed cause = tt
rose_by a b c Failed LinkFault first second failed cause = tt
rose_by a b c Failed WriteFault first second failed cause = ⊎_elim (λ f. rose_on a b c second (failed f)) (λ rose. rose_later a b c first rose) cause
rose_by a b c Failed Memory first second failed cause = tt

pub nothing_gone : (a b c : Option (List ℕ)) (Quiet : Type 0) (o : Outcome) → (Quiet → b ≡ a) → WhereNothingPut (Quiet × (c ≡ b)) o → WhereNothingPut (c ≡ a) o
nothing_gone a b c Quiet (Complete n) quiet none = tt
nothing_gone a b c Quiet (ServerError code message) quiet none = none.1 ∙ quiet none.0
nothing_gone a b c Quiet (BadReply field) quiet none = tt
nothing_gone a b c Quiet ReadFault quiet none = tt
nothing_gone a b c Quiet LinkFault quiet none = tt
nothing_gone a b c Quiet WriteFault quiet none = tt
nothing_gone a b c Quiet Memory quiet none = none.1 ∙ quiet none.0

-- what is said of an `Err` of a result that is one
pub err_of : {T E : Type 0} {P : Type 0} (r : Result T E) (e : E) → r ≡ Err e → OnErr r P → P
err_of (Err x) e is p = p
err_of (Ok x) e is p = cc is
