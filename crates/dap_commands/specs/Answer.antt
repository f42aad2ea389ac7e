-- What the command `answer` says: the result of a target, by its text or by the Error object for its first
-- cause. Where a shelf does not tell its files, it may have any.
use Rattle.std.specs.Prelude.{◌≡◌, ℕ, ◌+◌, ◌≤◌, ◌⊎◌, ⊤, Bool, false, ◌&&◌, List, [], Option, Some, None, IsTrue, Result, Ok, Err}
use Rattle.std.specs.Option.{option_map_or}
use Rattle.dap_errors.specs.Causes.{message_text}
use Rattle.dap_errors.specs.declared.cause.Cause.{Cause}
use Rattle.dap_errors.specs.declared.cause.Cause.TheVariants as causes
use Rattle.dap_errors.specs.declared.file_cause.FileCause.{FileCause}
use Rattle.dap_http.specs.Sent.{is_data}
use Rattle.dap_http.specs.Targets.{Asked, target_of}
use Rattle.dap_http.specs.declared.kind.Kind.TheVariants.{Dods}
use Rattle.dap_outside.specs.Files.{Told}
use Rattle.dap_server.specs.Connections.{is_read_late}
use Rattle.dap_server.specs.Costs.{IsCost, IsCostAt, asks_shelf, most_first}
use Rattle.dap_server.specs.Files.{Files, MayHave}
use Rattle.dap_server.specs.Prepared.{MayGive}
use Rattle.dap_server.specs.Results.{ResultsAmong, Text, error_object, put_of, result_text}
use Rattle.xdr_encode.specs.Streamed.{Stops}
use Rattle.dap_commands.specs.Lines.{damaged_line, refused_line}
use Rattle.dap_commands.specs.declared.status.Status.{Status}
use Rattle.dap_commands.specs.declared.status.Status.TheVariants.{Complete, Words, Unsaved, Refused, Damaged, BadReply, ReadFault, WriteFault, LinkFault, Memory, ServerError}

-- the files that the shelf may have give that result
abbrev pub MayResult : Told → List ℕ → Result Text Cause → Type 0
MayResult told target r = (files : Files) × MayHave told files × ResultsAmong told target files r

-- all files that it may have give it
abbrev pub MustResult : Told → List ℕ → Result Text Cause → Type 0
MustResult told target r = (files : Files) → MayHave told files → ResultsAmong told target files r

-- a cause in a file, or another one
abbrev pub status_of_cause : Cause → Status
status_of_cause (causes.Damaged why) = Damaged
status_of_cause (causes.Syntax place) = Refused
status_of_cause (causes.UnknownName spot) = Refused
status_of_cause (causes.NotArray spot) = Refused
status_of_cause (causes.SlabCount spot) = Refused
status_of_cause (causes.BadSlab spot) = Refused
status_of_cause (causes.TwoSlabs spot) = Refused
status_of_cause (causes.TooMany spot) = Refused
status_of_cause (causes.NotColumn spot) = Refused
status_of_cause (causes.TypeMismatch spot) = Refused
status_of_cause (causes.FloatCompared spot) = Refused
status_of_cause (causes.Unsupported spot) = Refused
status_of_cause (causes.BigNumber spot) = Refused
status_of_cause (causes.TooLarge leaf) = Refused
status_of_cause causes.BadTarget = Refused
status_of_cause causes.NoFile = Refused
status_of_cause causes.BadMethod = Refused
status_of_cause causes.BadRequest = Refused
status_of_cause causes.HeadTooLong = Refused
status_of_cause causes.ReadFailed = Refused
status_of_cause causes.OutOfMemory = Refused
status_of_cause (causes.UpstreamBad place) = Refused
status_of_cause causes.UpstreamFault = Refused
status_of_cause causes.UpstreamLarge = Refused

abbrev pub status_of_result : Result Text Cause → Status
status_of_result (Ok t) = Complete
status_of_result (Err cause) = status_of_cause cause

-- the target looks for a file
abbrev pub looks_up : List ℕ → Bool
looks_up target = option_map_or asks_shelf (target_of target) false

-- what is put of an answer is known where the files are told; else where it was read before, as all but the values of
-- netCDF files is
abbrev pub WhereKnown : Told → List ℕ → Result Text Cause → Type 0 → Type 0
WhereKnown (Some files) target r P = P
WhereKnown None target (Err cause) P = P
WhereKnown None target (Ok t) P = (is_data t.kind && is_read_late target) ≡ false → P

-- by the status: what was put of which result, whole or a front of it, and the line that says a cause
abbrev pub AnswerSays : Told → List ℕ → (List ℕ → Type 0) → (List ℕ → Type 0) → (List ℕ → Type 0) → Status → Type 0
AnswerSays told target Out Front Line Complete = (t : Text) × MayResult told target (Ok t) × WhereKnown told target (Ok t) (Out t.text)
AnswerSays told target Out Front Line Refused =
    (cause : Cause) × MayResult told target (Err cause) × (status_of_cause cause ≡ Refused) × Out (error_object cause) × Line (refused_line (message_text cause))
AnswerSays told target Out Front Line Damaged =
    (why : FileCause) × MayResult told target (Err (causes.Damaged why)) × Out (error_object (causes.Damaged why)) × Line (damaged_line (message_text (causes.Damaged why)))
AnswerSays told target Out Front Line ReadFault =
    IsTrue (looks_up target)
    × (Out [] ⊎ ((text : List ℕ) × MayResult told target (Ok (result_text Dods text)) × WhereKnown told target (Ok (result_text Dods text)) (Front text)))
AnswerSays told target Out Front Line WriteFault = (r : Result Text Cause) × MayResult told target r × WhereKnown told target r (Front (put_of r))
AnswerSays told target Out Front Line Memory = Out []
AnswerSays told target Out Front Line Words = ⊥
AnswerSays told target Out Front Line Unsaved = ⊥
AnswerSays told target Out Front Line BadReply = ⊥
AnswerSays told target Out Front Line LinkFault = ⊥
AnswerSays told target Out Front Line ServerError = ⊥

-- the values of a data response may be asked for, and of no other answer
abbrev pub IsCostOf : Told → Asked → ℕ → Type 0
IsCostOf told a cost = (cost ≡ 0) ⊎ (((text : List ℕ) × MayGive told a (Ok (result_text Dods text))) × IsCost told a cost)

-- the most that is asked for a target: the first read of its file, and the cost of its values
abbrev pub MayAskAs : Told → Option Asked → ℕ → Type 0
MayAskAs told None most = most ≡ 0
MayAskAs told (Some a) most = (cost : ℕ) × IsCostOf told a cost × (most ≡ most_first told a.name + cost)

abbrev pub MayAskFor : Told → List ℕ → ℕ → Type 0
MayAskFor told target most = MayAskAs told (target_of target) most

-- the most that the first read of a target's file may ask
abbrev pub most_before : Told → List ℕ → ℕ
most_before told target = option_map_or (λ a. most_first told a.name) (target_of target) 0

-- no text was put: the Error object alone, or nothing
abbrev pub HasNoText : Status → Type 0
HasNoText Refused = ⊤
HasNoText Damaged = ⊤
HasNoText Memory = ⊤
HasNoText Complete = ⊥
HasNoText ReadFault = ⊥
HasNoText WriteFault = ⊥
HasNoText Words = ⊥
HasNoText Unsaved = ⊥
HasNoText BadReply = ⊥
HasNoText LinkFault = ⊥
HasNoText ServerError = ⊥

-- the same where a write failed: of the values no more than the batches that begin in what was put
abbrev pub MayHaveAskedAs : Told → Option Asked → Option (List ℕ) → Option (List ℕ) → ℕ → ℕ → Type 0
MayHaveAskedAs told None old new before now = now ≤ before
MayHaveAskedAs told (Some a) old new before now =
    (now ≤ before + most_first told a.name)
    ⊎ ((text : List ℕ) × MayGive told a (Ok (result_text Dods text)) × Stops text (IsCostAt told a) old new (before + most_first told a.name) now)

abbrev pub MayHaveAsked : Told → List ℕ → Option (List ℕ) → Option (List ℕ) → ℕ → ℕ → Type 0
MayHaveAsked told target old new before now = MayHaveAskedAs told (target_of target) old new before now
