-- The number and the line of each status (this project's).
use Rattle.std.specs.Prelude.{◌≡◌, ◌⊎◌, ℕ, List, ◌++◌, Option, Some, None, codes}
use Rattle.std.specs.Fmt.{decimal}
use Rattle.std.specs.List.{flat_map}
use Rattle.dap_model.specs.Shown.{shown_byte}
use Rattle.std.specs.Io.KnownBytes.{Appends}
use Rattle.dap_outside.specs.Causes.{Rose}
use Rattle.dap_outside.specs.Streams.{AppendsFront}
use Rattle.dap_commands.specs.declared.status.Status.{Status}
use Rattle.dap_commands.specs.declared.status.Status.TheVariants.{Complete, Words, Unsaved, Refused, Damaged, BadReply, ReadFault, WriteFault, LinkFault, Memory, ServerError}
use Rattle.reply_faults.specs.Bads.{bad_name}
use Rattle.reply_faults.specs.declared.bad.BadField.{BadField}

-- with which the program ends
abbrev pub number_of : Status → ℕ
number_of Complete = 0
number_of Words = 2
number_of Refused = 3
number_of Damaged = 4
number_of BadReply = 5
number_of ServerError = 6
number_of ReadFault = 7
number_of WriteFault = 8
number_of LinkFault = 9
number_of Memory = 10
number_of Unsaved = 12

-- for standard error. Those of a refusal, of a damaged file, of a bad reply, of an Error object and of what cannot be saved say what is wrong
abbrev pub line_of : Status → Option (List ℕ)
line_of Complete = None
line_of Words = Some (codes "usage: dap2 answer TARGET [WORKERS] | show | serve PORT WORKERS REQUESTS | fetch URL KIND CE [CE ..] | soak START SIZE | relay HOST UPPORT PORT ROOM REQUESTS | save [URL CE] | ver\n")
line_of Refused = None
line_of Damaged = None
line_of BadReply = None
line_of ServerError = None
line_of Unsaved = None
line_of ReadFault = Some (codes "dap2: read fault\n")
line_of WriteFault = Some (codes "dap2: write fault\n")
line_of LinkFault = Some (codes "dap2: link fault\n")
line_of Memory = Some (codes "dap2: out of memory\n")

-- the line that begins so and says the message of a cause
abbrev pub cause_line : List ℕ → List ℕ → List ℕ
cause_line start message = start ++ (message ++ codes "\n")

abbrev pub refused_line : List ℕ → List ℕ
refused_line message = cause_line (codes "dap2: refused: ") message

abbrev pub damaged_line : List ℕ → List ℕ
damaged_line message = cause_line (codes "dap2: damaged: ") message

abbrev pub bad_reply_line : BadField → List ℕ
bad_reply_line bad = codes "dap2: bad reply: " ++ bad_name bad.kind ++ codes " at " ++ decimal bad.place ++ codes "\n"

-- the digits of the code and the message of an Error object, which is escaped as the text of an element is
abbrev pub server_error_line : List ℕ → List ℕ → List ℕ
server_error_line code message = codes "dap2: server error " ++ (code ++ (codes ": " ++ (flat_map shown_byte message ++ codes "\n")))

-- the sink gained the line and its count of faults is as it was, or that rose and the sink gained a front of the line,
-- but not all
abbrev pub IsSaid : List ℕ → ℕ → ℕ → Option (List ℕ) → Option (List ℕ) → Type 0
IsSaid line before now old new = ((now ≡ before) × Appends old new line) ⊎ (Rose before now × AppendsFront old new line)
