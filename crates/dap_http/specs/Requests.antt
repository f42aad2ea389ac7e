-- The requests of a connection (RFC 9112, sections 2, 3 and 9.3), within this project's limits.
use Rattle.std.specs.Prelude.{◌≡◌, ℕ, ◌+◌, ◌<◌, ◌≤◌, ◌⊎◌, Bool, ◌&&◌, ◌||◌, not, List, [], ◌∷◌, ◌++◌, length, if◌then◌else◌, ◌==◌, count_by, codes, MatchBool}
use Rattle.std.specs.List.{list_any}
use Rattle.std.specs.Str.{bytes_eq, str_eq_ignore_ascii_case}
use Rattle.httparse.specs.Grammar.{AllPass, NeverHasRequest, ReadsRequest, RequestHead}
use Rattle.httparse.specs.Pieces.{is_newline}
use Rattle.dap_types.specs.Limits.{most_request_head, most_requests}
use Rattle.dap_http.specs.Fields.{is_named, named, parts_of}

-- the bytes begin with this head, of at most 64 fields, and then have that rest
abbrev pub ReadsHead : List ℕ → RequestHead → List ℕ → Type 0
ReadsHead bytes head rest = ReadsRequest bytes head rest × (length head.fields ≤ 64)

-- The first request of an input, and the input behind it: its shortest prefix that is a head (no head
-- begins another), of at most 16,384 bytes.
abbrev pub FirstRequest : List ℕ → RequestHead → List ℕ → Type 0
FirstRequest input head rest = ReadsHead input head rest × (length input ≤ length rest + most_request_head)

abbrev pub HasNoRequest : List ℕ → Type 0
HasNoRequest input = (head : RequestHead) (rest : List ℕ) → ¬ (FirstRequest input head rest)

-- its method is neither GET nor HEAD
abbrev pub is_other : List ℕ → Bool
is_other method = not (bytes_eq method (codes "GET") || bytes_eq method (codes "HEAD"))

-- a Connection field names `close`
abbrev pub names_close : List ℕ → Bool
names_close value = list_any (λ part. str_eq_ignore_ascii_case part (codes "close")) (parts_of value)

-- a field by which a connection ends: of a body, or a Connection that names `close`
abbrev pub field_ends : (List ℕ × List ℕ) → Bool
field_ends field =
    is_named (codes "Transfer-Encoding") field
    || (is_named (codes "Content-Length") field && not (bytes_eq field.1 (codes "0")))
    || (is_named (codes "Connection") field && names_close field.1)

-- the head ends its connection by itself: it is of HTTP/1.0, or of another method, or has such a field
abbrev pub ends_by : ℕ → List ℕ → List (List ℕ × List ℕ) → Bool
ends_by minor method fields = minor == 0 || is_other method || list_any field_ends fields

unfoldable pub ends_itself : RequestHead → Bool
ends_itself head = ends_by head.minor head.method (named head.fields)

-- and as request k of its connection, which has at most 1,000
abbrev pub ends_connection : ℕ → RequestHead → Bool
ends_connection k head = ends_itself head || k == most_requests

-- these are the requests of an input from number k on, and that is left behind them
abbrev pub Requests : ℕ → List ℕ → List RequestHead → List ℕ → Type 0
Requests k input [] left = (left ≡ input) × HasNoRequest input
Requests k input (head ∷ heads) left =
    (rest : List ℕ) × FirstRequest input head rest
    × MatchBool (ends_connection k head) ((heads ≡ []) × (left ≡ rest)) (Requests (k + 1) rest heads left)

-- ---- What a reader may answer where no head stands in the bytes that it read.

-- no head stands in these bytes
abbrev pub HasNoHead : List ℕ → Type 0
HasNoHead bytes = (head : RequestHead) (rest : List ℕ) → ¬ (ReadsHead bytes head rest)

-- nor does any, whatever follows
abbrev pub NeverHasHead : List ℕ → Type 0
NeverHasHead bytes = (more : List ℕ) → HasNoHead (bytes ++ more)

-- some bytes can follow that make them a head
abbrev pub MayBecomeHead : List ℕ → Type 0
MayBecomeHead bytes = (more : List ℕ) × (head : RequestHead) × ReadsHead (bytes ++ more) head []

-- how many line feeds there are
abbrev pub feeds : List ℕ → ℕ
feeds bytes = count_by (λ b. b == 10) bytes

-- the bytes from the first that is neither CR nor LF
abbrev pub after_newlines : List ℕ → List ℕ
after_newlines [] = []
after_newlines (b ∷ bytes) = if is_newline b then after_newlines bytes else b ∷ bytes

-- there is such a byte, and from there on no CR and no LF
abbrev pub IsFirstLine : List ℕ → Type 0
IsFirstLine bytes = (0 < length (after_newlines bytes)) × AllPass (λ b. not (is_newline b)) (after_newlines bytes)

-- the bytes are no request
pub record IsBadRequest (bytes : List ℕ) : Type 0 where
  pub never : NeverHasHead bytes
  pub why : NeverHasRequest bytes ⊎ ((66 ≤ feeds bytes) × HasNoHead bytes)

-- they are too many
pub record IsTooLong (bytes : List ℕ) : Type 0 where
  pub many : most_request_head ≤ length bytes
  pub none : HasNoRequest bytes

-- they end before a head does
pub record IsGone (bytes : List ℕ) : Type 0 where
  pub few : length bytes < most_request_head
  pub none : HasNoHead bytes
  pub why : MayBecomeHead bytes ⊎ (IsFirstLine bytes ⊎ (65 ≤ feeds bytes))
