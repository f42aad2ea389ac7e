-- What `show` says, by its outcome.
use Rattle.std.proofs.Common.{◌≡◌, ◌≢◌, ℕ, ℤ, List, length, take, Option, None, refl, sym, subst}
use Rattle.std.specs.Fmt.{signed_decimal}
use Rattle.std.specs.Io.KnownBytes.{Appends}
use Rattle.dap_types.specs.Model.{Dataset, Tree}
use Rattle.dap_model.specs.Partly.{ShowsLines}
use Rattle.dap_model.specs.Shown.{shown}
use Rattle.reply_faults.specs.declared.bad.BadField.{BadField}
use Rattle.dap_client.specs.Outcomes.{outcome_of}
use Rattle.dap_client.specs.Shows.{Gains, IsWrongTaken, Takes}
use Rattle.dap_client.specs.Verdict.{Verdict, IsVerdict, bad, dods_form, good, good_das, good_dds, server_error}
use Rattle.dap_client.specs.declared.outcome.Outcome.TheVariants as outcome
use Rattle.dap_commands.specs.Lines.{bad_reply_line, line_of, server_error_line}
use Rattle.dap_commands.specs.Show.{IsFor, ShowSays, status_of_verdict}
use Rattle.dap_commands.specs.declared.status.Status.{Status}
use Rattle.dap_commands.specs.declared.status.Status.TheVariants.{Complete, Words, Unsaved, Refused, Damaged, BadReply, ServerError, ReadFault, WriteFault, LinkFault, Memory}

pub complete_says : (left now : Option (List ℕ)) (Ended AtEnd : Type 0) (old new : Option (List ℕ)) (Line : List ℕ → Type 0) (n : ℕ) → Ended × AtEnd
    → Takes left now (λ body. (length body ≡ n) × ((d : Dataset) × (ts : List Tree) × IsVerdict dods_form body (good d ts) × Appends old new (shown d ts n))) → ShowSays left now Ended AtEnd old new Line Complete
complete_says left now Ended AtEnd old new Line n at (body, took, (is, (d, ts, v, all))) = (at.0, at.1, (body, took, (d, ts, v, subst (λ m. Appends old new (shown d ts m)) (sym is) all)))

pub server_says : (left now : Option (List ℕ)) (Ended AtEnd : Type 0) (old new : Option (List ℕ)) (Line : List ℕ → Type 0) (code : ℤ) (message digits text : List ℕ) → Ended × AtEnd → new ≡ old → digits ≡ signed_decimal code → text ≡ message
    → Takes left now (λ body. IsVerdict dods_form body (server_error (record { code = code; message = message }))) → Line (server_error_line digits text) → ShowSays left now Ended AtEnd old new Line ServerError
server_says left now Ended AtEnd old new Line code message digits text at same number is (body, took, v) line =
    (at.0, at.1, same, (body, took, (record { code = code; message = message }, v, subst (λ m. Line (server_error_line (signed_decimal code) m)) is (subst (λ d. Line (server_error_line d text)) number line))))

pub bad_says : (left now : Option (List ℕ)) (Ended AtEnd : Type 0) (old new : Option (List ℕ)) (Line : List ℕ → Type 0) (field : BadField)
    → Takes left now (λ taken. IsWrongTaken Ended AtEnd field taken × Gains old new (ShowsLines (take field.place taken))) → Line (bad_reply_line field) → ShowSays left now Ended AtEnd old new Line BadReply
bad_says left now Ended AtEnd old new Line field (taken, took, (wrong, gains)) line = (taken, took, (field, wrong, gains, line))

-- ---- the status for a verdict
pub for_complete : (n bytes : ℕ) (v : Verdict) → outcome.Complete bytes ≡ outcome_of n v → IsFor v Complete
for_complete n bytes (good d ts) is = refl
for_complete n bytes (good_dds d) is = refl
for_complete n bytes (good_das a) is = refl
for_complete n bytes (server_error e) is = cc is
for_complete n bytes (bad kind place) is = cc is

pub for_server_error : (n : ℕ) (code : ℤ) (message : List ℕ) (v : Verdict) → outcome.ServerError code message ≡ outcome_of n v → IsFor v ServerError
for_server_error n code message (good d ts) is = cc is
for_server_error n code message (good_dds d) is = cc is
for_server_error n code message (good_das a) is = cc is
for_server_error n code message (server_error e) is = refl
for_server_error n code message (bad kind place) is = cc is

pub for_bad_reply : (n : ℕ) (field : BadField) (v : Verdict) → outcome.BadReply field ≡ outcome_of n v → IsFor v BadReply
for_bad_reply n field (good d ts) is = cc is
for_bad_reply n field (good_dds d) is = cc is
for_bad_reply n field (good_das a) is = cc is
for_bad_reply n field (server_error e) is = cc is
for_bad_reply n field (bad kind place) is = refl

-- ---- in the run
-- the line on another one, where the status has no line of its own
pub another_show_line : (left now : Option (List ℕ)) (Ended AtEnd : Type 0) (old new : Option (List ℕ)) (Line Other : List ℕ → Type 0) (status : Status) → (line_of status ≡ None → (l : List ℕ) → Line l → Other l)
    → ShowSays left now Ended AtEnd old new Line status → ShowSays left now Ended AtEnd old new Other status
another_show_line left now Ended AtEnd old new Line Other Complete pass says = says
another_show_line left now Ended AtEnd old new Line Other ServerError pass (ended, at, same, (body, took, (e, v, line))) =
    (ended, at, same, (body, took, (e, v, pass refl (server_error_line (signed_decimal e.code) e.message) line)))
another_show_line left now Ended AtEnd old new Line Other BadReply pass (taken, took, (field, wrong, gains, line)) = (taken, took, (field, wrong, gains, pass refl (bad_reply_line field) line))
another_show_line left now Ended AtEnd old new Line Other ReadFault pass says = says
another_show_line left now Ended AtEnd old new Line Other WriteFault pass says = says
another_show_line left now Ended AtEnd old new Line Other Memory pass says = says
another_show_line left now Ended AtEnd old new Line Other Words pass says = says
another_show_line left now Ended AtEnd old new Line Other Unsaved pass says = says
another_show_line left now Ended AtEnd old new Line Other Refused pass says = says
another_show_line left now Ended AtEnd old new Line Other Damaged pass says = says
another_show_line left now Ended AtEnd old new Line Other LinkFault pass says = says

-- no fault, and memory was had
pub told_status : (v : Verdict) (status : Status) (Read Write : Type 0) → (status ≡ ReadFault → Read) → (status ≡ WriteFault → Write) → ¬ Read → ¬ Write → status ≢ Memory → IsFor v status → status ≡ status_of_verdict v
told_status v Complete Read Write read write still quiet had is = is
told_status v Words Read Write read write still quiet had is = is
told_status v Unsaved Read Write read write still quiet had is = is
told_status v Refused Read Write read write still quiet had is = is
told_status v Damaged Read Write read write still quiet had is = is
told_status v BadReply Read Write read write still quiet had is = is
told_status v ServerError Read Write read write still quiet had is = is
told_status v ReadFault Read Write read write still quiet had is = absurd (still (read refl))
told_status v WriteFault Read Write read write still quiet had is = absurd (quiet (write refl))
told_status v LinkFault Read Write read write still quiet had is = is
told_status v Memory Read Write read write still quiet had is = absurd (had refl)
