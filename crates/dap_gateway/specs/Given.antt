-- What a gateway answers a request with (RFC 9112, sections 4 to 7; DAP 2.0, HTTP headers of responses), and the reply
-- that says it. Each reply ends its connection.
use Rattle.std.specs.Prelude.{ℕ, Bool, true, false, List, [], ◌++◌, length, codes, Some, if◌then◌else◌}
use Rattle.dap_errors.specs.Causes.{http_status}
use Rattle.dap_errors.specs.declared.cause.Cause.{Cause}
use Rattle.dap_errors.specs.declared.cause.Cause.TheVariants.{OutOfMemory, UpstreamBad, UpstreamFault, UpstreamLarge}
use Rattle.dap_client.specs.declared.body_outcome.BodyOutcome.{BodyOutcome}
use Rattle.dap_client.specs.declared.body_outcome.BodyOutcome.TheVariants as outcome
use Rattle.dap_http.specs.Frames.{framed}
use Rattle.dap_http.specs.Sent.{error_head, error_object, stated_length}
use Rattle.dap_http.specs.Texts.{description_of, head_text, is_chunked}
use Rattle.dap_http.specs.declared.kind.Kind.{Kind}

pub data Given : Type 0 where
  -- a text or data of a kind
  text : Kind → List ℕ → Given
  -- an Error object of the other server, as it came
  server_error : List ℕ → Given
  -- a cause of the gateway's own
  refused : Cause → Given

-- the other server's Error objects go out as a bad request
abbrev pub given_status : Given → ℕ
given_status (text kind body) = 200
given_status (server_error object) = 400
given_status (refused cause) = http_status cause

-- the head, to a request of this minor version
abbrev pub head_of : ℕ → Given → List ℕ
head_of minor (text kind body) = head_text 200 (description_of kind) (stated_length kind body) (is_chunked kind minor) true
head_of minor (server_error object) = head_text 400 (codes "dods_error") (Some (length object)) false true
head_of minor (refused cause) = error_head true cause

-- what follows it
abbrev pub body_of : ℕ → Given → List ℕ
body_of minor (text kind body) = framed (is_chunked kind minor) body
body_of minor (server_error object) = object
body_of minor (refused cause) = error_object cause

-- the reply; to HEAD it is the head of the reply to GET
abbrev pub reply : Bool → ℕ → Given → List ℕ
reply head_alone minor given = head_of minor given ++ (if head_alone then [] else body_of minor given)

-- what is answered by what the other server's reply brought
abbrev pub given_for : Kind → BodyOutcome → Given
given_for kind (outcome.Good body) = text kind body
given_for kind (outcome.ServerError object) = server_error object
given_for kind (outcome.Bad field) = refused (UpstreamBad field.place)
given_for kind outcome.TooLarge = refused UpstreamLarge
given_for kind outcome.ReadFault = refused UpstreamFault
given_for kind outcome.Memory = refused OutOfMemory
