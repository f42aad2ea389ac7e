-- What the command `soak` says of the generated file (the lines are this project's).
use Rattle.std.specs.Prelude.{ℕ, List, []}
use Rattle.soak.specs.Numbers.{lines_of, numbers}
use Rattle.dap_commands.specs.declared.status.Status.{Status}
use Rattle.dap_commands.specs.declared.status.Status.TheVariants.{Complete, Words, Unsaved, Refused, Damaged, BadReply, ReadFault, WriteFault, LinkFault, Memory, ServerError}

-- the lines of the numbers of the file of a seed and of so many records are put, or where the output failed a
-- front of them
abbrev pub SoakSays : ℕ → ℕ → (List ℕ → Type 0) → (List ℕ → Type 0) → Status → Type 0
SoakSays start records Out Front Complete = Out (lines_of (numbers start records))
SoakSays start records Out Front WriteFault = Front (lines_of (numbers start records))
SoakSays start records Out Front Memory = Out []
SoakSays start records Out Front Words = ⊥
SoakSays start records Out Front Unsaved = ⊥
SoakSays start records Out Front Refused = ⊥
SoakSays start records Out Front Damaged = ⊥
SoakSays start records Out Front BadReply = ⊥
SoakSays start records Out Front ReadFault = ⊥
SoakSays start records Out Front LinkFault = ⊥
SoakSays start records Out Front ServerError = ⊥
