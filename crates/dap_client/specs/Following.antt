-- Replies that follow one another.
use Rattle.std.specs.Prelude.{◌≡◌, ℕ, List, Option, None, Some}
use Rattle.dap_http.specs.Reading.{rest_of}
use Rattle.dap_client.specs.declared.outcome.Outcome.{Outcome}
use Rattle.dap_client.specs.declared.outcome.Outcome.TheVariants.{Complete, ServerError, BadReply, ReadFault, WriteFault, LinkFault, Memory}
use Rattle.dap_client.specs.declared.replies.Replies.{Replies}
use Rattle.dap_client.specs.declared.replies.Stop.{Stop}
use Rattle.dap_client.specs.declared.replies.Stop.TheVariants as stop

-- the bytes that were taken behind the framing of the last reply
abbrev pub pending : Replies → List ℕ
pending r = rest_of r.heads

-- the outcome behind which no more replies are read
abbrev pub outcome_at : Stop → Outcome
outcome_at (stop.BadReply field) = BadReply field
outcome_at stop.ReadFault = ReadFault
outcome_at stop.WriteFault = WriteFault
outcome_at stop.Memory = Memory

-- further replies are read after `Complete` and `ServerError` alone
abbrev pub IsStoppedBy : Outcome → Option Stop → Type 0
IsStoppedBy (Complete bytes) stopped = stopped ≡ None
IsStoppedBy (ServerError code message) stopped = stopped ≡ None
IsStoppedBy (BadReply field) stopped = stopped ≡ Some (stop.BadReply field)
IsStoppedBy ReadFault stopped = stopped ≡ Some stop.ReadFault
IsStoppedBy WriteFault stopped = stopped ≡ Some stop.WriteFault
IsStoppedBy LinkFault stopped = stopped ≡ None
IsStoppedBy Memory stopped = stopped ≡ Some stop.Memory
