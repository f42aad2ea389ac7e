-- The reply to a request (RFC 9112, sections 2 to 7; DAP 2.0, HTTP headers of responses; the lines and the
-- statuses are this project's): a head, and behind it the text, in chunks where it is data, or the Error
-- object of the cause. To HEAD it is the head alone.
use Rattle.std.specs.Prelude.{◌≡◌, ℕ, ◌+◌, ⊤, Bool, true, false, ◌||◌, List, [], ◌∷◌, ◌++◌, map, if◌then◌else◌, codes, MatchBool, Option, Some, Result, Ok, Err}
use Rattle.std.specs.Str.{bytes_eq}
use Rattle.httparse.specs.Grammar.{RequestHead}
use Rattle.dap_errors.specs.Causes.{http_status}
use Rattle.dap_errors.specs.declared.cause.Cause.{Cause}
use Rattle.dap_errors.specs.declared.cause.Cause.TheVariants.{BadMethod, OutOfMemory}
use Rattle.dap_http.specs.Frames.{framed}
use Rattle.dap_http.specs.Requests.{Requests, ends_connection, is_other}
pub use Rattle.dap_http.specs.Sent.{error_head, is_data}
use Rattle.dap_http.specs.Sent as sent
use Rattle.dap_http.specs.Texts.{description_of, head_text, is_chunked}
use Rattle.dap_outside.specs.Files.{Told}
use Rattle.dap_server.specs.Files.{Files}
use Rattle.dap_server.specs.Results.{ResultsAmong, Text, error_object}

-- what a request says, and whether it ends its connection
pub record Request : Type 0 where
  pub method : List ℕ
  pub target : List ℕ
  pub minor : ℕ
  pub ends : Bool

-- a head as request k of its connection
abbrev pub request : ℕ → RequestHead → Request
request k head = record { method = head.method; target = head.target; minor = head.minor; ends = ends_connection k head }

abbrev pub is_head : Request → Bool
is_head q = bytes_eq q.method (codes "HEAD")

-- what it is answered: a text, or the first cause, of which a method that is not served comes before all
abbrev pub IsRequestAnsweredAmong : Told → Files → Request → Result Text Cause → Type 0
IsRequestAnsweredAmong told files q answer = MatchBool (is_other q.method) (answer ≡ Err BadMethod) (ResultsAmong told q.target files answer)

abbrev pub IsRequestAnswered : Files → Request → Result Text Cause → Type 0
IsRequestAnswered files q answer = IsRequestAnsweredAmong (Some files) files q answer

-- data has no stated length
abbrev pub stated_length : Text → Option ℕ
stated_length t = sent.stated_length t.kind t.text

-- behind a want of memory the connection ends
abbrev pub wants_memory : Cause → Bool
wants_memory OutOfMemory = true
wants_memory cause = false

abbrev pub wants : Result Text Cause → Bool
wants (Ok t) = false
wants (Err cause) = wants_memory cause

-- the connection ends behind the reply
abbrev pub is_last : Request → Result Text Cause → Bool
is_last q answer = q.ends || wants answer

-- the head of an answer, and what follows it
abbrev pub head_of : Request → Result Text Cause → List ℕ
head_of q (Ok t) = head_text 200 (description_of t.kind) (stated_length t) (is_chunked t.kind q.minor) (is_last q (Ok t))
head_of q (Err cause) = error_head (is_last q (Err cause)) cause

abbrev pub body_of : Request → Result Text Cause → List ℕ
body_of q (Ok t) = framed (is_chunked t.kind q.minor) t.text
body_of q (Err cause) = error_object cause

abbrev pub reply_of : Request → Result Text Cause → List ℕ
reply_of q answer = head_of q answer ++ (if is_head q then [] else body_of q answer)

abbrev pub reply_status : Result Text Cause → ℕ
reply_status (Ok t) = 200
reply_status (Err cause) = http_status cause

-- where there is no request: the head, which ends the connection, and the Error object
abbrev pub last_reply : Cause → List ℕ
last_reply cause = error_head true cause ++ error_object cause

-- a request with its answer
pub record Turn : Type 0 where
  pub head : RequestHead
  pub answer : Result Text Cause

-- the replies of turns, one behind the other, of which the first answers request k
abbrev pub replies : ℕ → List Turn → List ℕ
replies k [] = []
replies k (t ∷ turns) = reply_of (request k t.head) t.answer ++ replies (k + 1) turns

-- each is answered by what it asks of these files
abbrev pub AreAnswered : Files → ℕ → List Turn → Type 0
AreAnswered files k [] = ⊤
AreAnswered files k (t ∷ turns) = IsRequestAnswered files (request k t.head) t.answer × AreAnswered files (k + 1) turns

-- the replies to the requests of an input over some files
pub record Replies (input : List ℕ) (files : Files) (text : List ℕ) : Type 0 where
  pub turns : List Turn
  pub behind : List ℕ
  pub requests : Requests 1 input (map (λ t. t.head) turns) behind
  pub answered : AreAnswered files 1 turns
  pub are_these : text ≡ replies 1 turns
