-- What the command `show` says: the verdict on the data response that comes in, what was put of it, and the
-- line that says what is wrong.
use Rattle.std.specs.Prelude.{◌≡◌, ℕ, ⊤, List, length, take, Option}
use Rattle.std.specs.Fmt.{signed_decimal}
use Rattle.std.specs.Io.KnownBytes.{Appends}
use Rattle.dap_errors.specs.declared.object.ErrorObject.{ErrorObject}
use Rattle.dap_types.specs.Limits.{most_piece}
use Rattle.dap_types.specs.Model.{Dataset, Tree}
use Rattle.dap_model.specs.Partly.{ShowsLines}
use Rattle.dap_model.specs.Shown.{shown}
use Rattle.reply_faults.specs.declared.bad.BadField.{BadField}
use Rattle.dap_client.specs.Shows.{BreaksOff, Gains, HasFewValues, IsWrongTaken, StopsWithin, Takes}
use Rattle.dap_client.specs.Verdict.{Verdict, IsVerdict, bad, dods_form, good, good_das, good_dds, server_error}
use Rattle.dap_commands.specs.Lines.{bad_reply_line, server_error_line}
use Rattle.dap_commands.specs.declared.status.Status.{Status}
use Rattle.dap_commands.specs.declared.status.Status.TheVariants.{Complete, Words, Unsaved, Refused, Damaged, BadReply, ServerError, ReadFault, WriteFault, LinkFault, Memory}

-- the status for a verdict
abbrev pub status_of_verdict : Verdict → Status
status_of_verdict (good d ts) = Complete
status_of_verdict (good_dds d) = Complete
status_of_verdict (good_das a) = Complete
status_of_verdict (server_error e) = ServerError
status_of_verdict (bad kind place) = BadReply

-- nothing but a fault, or want of memory, comes in its place
abbrev pub IsFor : Verdict → Status → Type 0
IsFor v ReadFault = ⊤
IsFor v WriteFault = ⊤
IsFor v Memory = ⊤
IsFor v status = status ≡ status_of_verdict v

-- By the status, of the bytes that the input had left and has left now, of whether its end mark stands and
-- nothing is left, of what the output gained, and of the line that says what is wrong.
abbrev pub ShowSays : Option (List ℕ) → Option (List ℕ) → Type 0 → Type 0 → Option (List ℕ) → Option (List ℕ) → (List ℕ → Type 0) → Status → Type 0
ShowSays left now Ended AtEnd old new Line Complete =
    Ended × AtEnd × Takes left now (λ body. (d : Dataset) × (ts : List Tree) × IsVerdict dods_form body (good d ts) × Appends old new (shown d ts (length body)))
ShowSays left now Ended AtEnd old new Line ServerError =
    Ended × AtEnd × (new ≡ old) × Takes left now (λ body. (e : ErrorObject) × IsVerdict dods_form body (server_error e) × Line (server_error_line (signed_decimal e.code) e.message))
ShowSays left now Ended AtEnd old new Line BadReply =
    Takes left now (λ taken. (field : BadField) × IsWrongTaken Ended AtEnd field taken × Gains old new (ShowsLines (take field.place taken)) × Line (bad_reply_line field))
ShowSays left now Ended AtEnd old new Line ReadFault = Takes left now (λ taken. Gains old new (StopsWithin taken))
ShowSays left now Ended AtEnd old new Line WriteFault = Takes left now (λ taken. Gains old new (BreaksOff taken))
ShowSays left now Ended AtEnd old new Line Memory = (new ≡ old) × Takes left now (HasFewValues most_piece)
ShowSays left now Ended AtEnd old new Line Words = ⊥
ShowSays left now Ended AtEnd old new Line Unsaved = ⊥
ShowSays left now Ended AtEnd old new Line Refused = ⊥
ShowSays left now Ended AtEnd old new Line Damaged = ⊥
ShowSays left now Ended AtEnd old new Line LinkFault = ⊥
