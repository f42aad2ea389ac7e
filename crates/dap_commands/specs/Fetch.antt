-- What the command `fetch` says of the replies that were asked for.
use Rattle.std.specs.Prelude.{◌≡◌, ℕ, ⊤, List}
use Rattle.std.specs.Fmt.{signed_decimal}
use Rattle.dap_outside.specs.Links.{LinkState}
use Rattle.dap_http.specs.Urls.{UrlParts}
use Rattle.dap_http.specs.declared.kind.Kind.{Kind}
use Rattle.dap_client.specs.Fetched.{DialState, Fetches, SinkState}
use Rattle.dap_client.specs.declared.fetching.Fetched.{Fetched}
use Rattle.dap_client.specs.declared.outcome.Outcome.{Outcome}
use Rattle.dap_client.specs.declared.outcome.Outcome.TheVariants as outcomes
use Rattle.dap_commands.specs.Lines.{bad_reply_line, server_error_line}
use Rattle.dap_commands.specs.declared.status.Status.{Status}
use Rattle.dap_commands.specs.declared.status.Status.TheVariants.{Complete, BadReply, ServerError, ReadFault, WriteFault, LinkFault, Memory}

-- the status for the last outcome
abbrev pub status_of_outcome : Outcome → Status
status_of_outcome (outcomes.Complete bytes) = Complete
status_of_outcome (outcomes.ServerError code message) = ServerError
status_of_outcome (outcomes.BadReply field) = BadReply
status_of_outcome outcomes.ReadFault = ReadFault
status_of_outcome outcomes.WriteFault = WriteFault
status_of_outcome outcomes.LinkFault = LinkFault
status_of_outcome outcomes.Memory = Memory

-- the line that says what is wrong, where the outcome does
abbrev pub FetchedLine : Outcome → (List ℕ → Type 0) → Type 0
FetchedLine (outcomes.ServerError code message) Line = Line (server_error_line (signed_decimal code) message)
FetchedLine (outcomes.BadReply field) Line = Line (bad_reply_line field)
FetchedLine outcome Line = ⊤

-- the replies of a URL for these constraints, as `fetch_all` reads them, and the last of them as a status and a line
abbrev pub FetchSays : {W : Type 0} → (W → LinkState) → UrlParts → Kind → List (List ℕ) → DialState W → DialState W → SinkState → SinkState → (List ℕ → Type 0) → Status → Type 0
FetchSays state u kind ces a b before now Line status =
    (fetched : Fetched) × Fetches state u kind ces a b before now fetched × (status ≡ status_of_outcome fetched.last) × FetchedLine fetched.last Line
