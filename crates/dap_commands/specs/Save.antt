-- What the command `save` says of a data response that comes in or is fetched: the status and the line for how its
-- saving ended (this project's).
use Rattle.std.specs.Prelude.{◌≡◌, ℕ, ⊤, List, ◌++◌, codes}
use Rattle.std.specs.Fmt.{decimal, signed_decimal}
use Rattle.netcdf_writer.specs.declared.stored.Stored.{Stored}
use Rattle.netcdf_writer.specs.declared.stored.Stored.TheVariants as stored
use Rattle.netcdf_writer.specs.declared.stored.Why.{Why}
use Rattle.netcdf_writer.specs.declared.stored.Why.TheVariants.{Kind, NoName, BadName, BadGrid, Clash, Zero}
use Rattle.dap_commands.specs.Lines.{bad_reply_line, cause_line, server_error_line}
use Rattle.dap_commands.specs.declared.status.Status.{Status}
use Rattle.dap_commands.specs.declared.status.Status.TheVariants.{Complete, Unsaved, BadReply, ServerError, ReadFault, WriteFault, LinkFault, Memory}

-- why a member cannot be stored
abbrev pub why_text : Why → List ℕ
why_text Kind = codes "kind"
why_text NoName = codes "no name"
why_text BadName = codes "bad name"
why_text BadGrid = codes "bad grid"
why_text Clash = codes "clash"
why_text Zero = codes "zero"

abbrev pub unsaved_line : List ℕ → List ℕ
unsaved_line reason = cause_line (codes "dap2: cannot save: ") reason

-- the digits of the member's number, and why it cannot be stored
abbrev pub reason_line : List ℕ → List ℕ → List ℕ
reason_line member reason = codes "dap2: cannot save: member " ++ (member ++ (codes ": " ++ (reason ++ codes "\n")))

abbrev pub member_line : List ℕ → Why → List ℕ
member_line member why = reason_line member (why_text why)

-- the status for how a saving ended
abbrev pub status_of_stored : Stored → Status
status_of_stored (stored.Written bytes) = Complete
status_of_stored (stored.Unsavable member why) = Unsaved
status_of_stored stored.BodyTooLarge = Unsaved
status_of_stored stored.HeaderTooLong = Unsaved
status_of_stored (stored.ServerError code message) = ServerError
status_of_stored (stored.BadReply field) = BadReply
status_of_stored stored.ReadFault = ReadFault
status_of_stored stored.WriteFault = WriteFault
status_of_stored stored.LinkFault = LinkFault
status_of_stored stored.Memory = Memory

-- and its line, where that is not the line of the status
abbrev pub SavedLine : Stored → (List ℕ → Type 0) → Type 0
SavedLine (stored.Unsavable member why) Line = Line (member_line (decimal member) why)
SavedLine stored.BodyTooLarge Line = Line (unsaved_line (codes "body too large"))
SavedLine stored.HeaderTooLong Line = Line (unsaved_line (codes "header too long"))
SavedLine (stored.ServerError code message) Line = Line (server_error_line (signed_decimal code) message)
SavedLine (stored.BadReply field) Line = Line (bad_reply_line field)
SavedLine answer Line = ⊤

-- some answer is so of what came in and of the output, and the status and the line are those for it
abbrev pub SaveSays : (Stored → Type 0) → (List ℕ → Type 0) → Status → Type 0
SaveSays Saves Line status = (answer : Stored) × Saves answer × (status ≡ status_of_stored answer) × SavedLine answer Line
