-- What the parts of an answer say, by the status: what was put, whole or a front of it.
use Rattle.std.specs.Prelude.{◌≡◌, ℕ, ⊤, List, [], codes}
use Rattle.dap_errors.specs.Causes.{message_text}
use Rattle.dap_errors.specs.declared.cause.Cause.{Cause}
use Rattle.dap_server.specs.Results.{error_object}
use Rattle.dap_commands.specs.Answer.{status_of_cause}
use Rattle.dap_commands.specs.Lines.{cause_line}
use Rattle.dap_commands.specs.declared.status.Status.{Status}
use Rattle.dap_commands.specs.declared.status.Status.TheVariants.{Complete, Words, Unsaved, Refused, Damaged, BadReply, ReadFault, WriteFault, LinkFault, Memory, ServerError}

abbrev pub TextPut : List ℕ → (List ℕ → Type 0) → (List ℕ → Type 0) → Status → Type 0
TextPut text Out Front Complete = Out text
TextPut text Out Front WriteFault = Front text
TextPut text Out Front Words = ⊥
TextPut text Out Front Unsaved = ⊥
TextPut text Out Front Refused = ⊥
TextPut text Out Front Damaged = ⊥
TextPut text Out Front BadReply = ⊥
TextPut text Out Front ReadFault = ⊥
TextPut text Out Front Memory = ⊥
TextPut text Out Front ServerError = ⊥
TextPut text Out Front LinkFault = ⊥

abbrev pub BodyPut : List ℕ → (List ℕ → Type 0) → (List ℕ → Type 0) → Status → Type 0
BodyPut text Out Front Complete = Out text
BodyPut text Out Front ReadFault = Front text
BodyPut text Out Front WriteFault = Front text
BodyPut text Out Front Words = ⊥
BodyPut text Out Front Unsaved = ⊥
BodyPut text Out Front Refused = ⊥
BodyPut text Out Front Damaged = ⊥
BodyPut text Out Front BadReply = ⊥
BodyPut text Out Front Memory = ⊥
BodyPut text Out Front ServerError = ⊥
BodyPut text Out Front LinkFault = ⊥

-- a body was put, or a fault ended it
abbrev pub IsPut : Status → Type 0
IsPut status = BodyPut [] (λ text. ⊤) (λ text. ⊤) status

-- what the line for a cause begins with
abbrev pub start_of : Status → List ℕ
start_of Damaged = codes "dap2: damaged: "
start_of status = codes "dap2: refused: "

abbrev pub status_start : Cause → List ℕ
status_start cause = start_of (status_of_cause cause)

abbrev pub RefusalPut : Cause → (List ℕ → Type 0) → (List ℕ → Type 0) → (List ℕ → Type 0) → Status → Type 0
RefusalPut cause Out Front Line Refused = (status_of_cause cause ≡ Refused) × Out (error_object cause) × Line (cause_line (status_start cause) (message_text cause))
RefusalPut cause Out Front Line Damaged = (status_of_cause cause ≡ Damaged) × Out (error_object cause) × Line (cause_line (status_start cause) (message_text cause))
RefusalPut cause Out Front Line WriteFault = Front (error_object cause)
RefusalPut cause Out Front Line Memory = Out []
RefusalPut cause Out Front Line Complete = ⊥
RefusalPut cause Out Front Line Words = ⊥
RefusalPut cause Out Front Line Unsaved = ⊥
RefusalPut cause Out Front Line BadReply = ⊥
RefusalPut cause Out Front Line ReadFault = ⊥
RefusalPut cause Out Front Line ServerError = ⊥
RefusalPut cause Out Front Line LinkFault = ⊥
