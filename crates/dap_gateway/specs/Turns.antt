-- What a connection of a gateway comes to, by the bytes that were taken from it and by the cache: the answer, what was
-- asked of the other server, and the cache behind it. The order of the causes is this project's.
use Rattle.std.specs.Prelude.{◌≡◌, ◌≢◌, ℕ, ◌-◌, ◌⊎◌, Bool, true, false, List, ◌∷◌, ◌++◌, length, take, codes, nat_le, IsTrue, Option, Some, None, if◌then◌else◌}
use Rattle.std.specs.Map.{lookup}
use Rattle.std.specs.Str.{bytes_eq}
use Rattle.std.specs.Io.KnownBytes.{Appends}
use Rattle.httparse.specs.Grammar.{RequestHead}
use Rattle.lru.specs.LruCache.{promoted}
use Rattle.dap_types.specs.Limits.{most_kept}
use Rattle.dap_errors.specs.declared.cause.Cause.TheVariants.{BadMethod, BadRequest, BadTarget, HeadTooLong, OutOfMemory}
use Rattle.dap_outside.specs.Links.{LinkState}
use Rattle.dap_http.specs.Frames.{IsProperFront, framed}
use Rattle.dap_http.specs.Framings.{front_of}
use Rattle.dap_http.specs.Requests.{FirstRequest, HasNoRequest, IsBadRequest, IsGone, IsTooLong, is_other}
use Rattle.dap_http.specs.Targets.{Asked, target_of, asked_of}
use Rattle.dap_http.specs.Texts.{version}
use Rattle.dap_http.specs.declared.kind.Kind.{Kind}
use Rattle.dap_http.specs.declared.kind.Kind.TheVariants.{Ver}
use Rattle.dap_http.specs.declared.target.Target.{Target}
use Rattle.dap_client.specs.Fetched.{DialState}
use Rattle.dap_client.specs.Replies.{form_of}
use Rattle.dap_client.specs.declared.body_outcome.BodyOutcome.{BodyOutcome}
use Rattle.dap_client.specs.declared.body_outcome.BodyOutcome.TheVariants.{Memory}
use Rattle.dap_gateway.specs.Given.{Given, given_for, refused, reply, server_error, given_status, text}
use Rattle.dap_gateway.specs.Upstream.{Dials, key_of}
use Rattle.dap_gateway.specs.declared.ready.Extent.{Extent}
use Rattle.dap_gateway.specs.declared.ready.Extent.TheVariants.{HeadAlone, WithBody}
use Rattle.dap_gateway.specs.declared.ready.Ready.{Ready}
use Rattle.dap_gateway.specs.declared.relayed.Relayed.{Relayed}
use Rattle.dap_gateway.specs.declared.relayed.Relayed.TheVariants.{Replied, Gone, ReadFault, WriteFault}
use Rattle.dap_gateway.specs.declared.wanted.Wanted.{Wanted}

abbrev pub is_head_method : List ℕ → Bool
is_head_method method = bytes_eq method (codes "HEAD")

abbrev pub is_head : RequestHead → Bool
is_head head = is_head_method head.method

abbrev pub wanted_of : List ℕ → ℕ → Target → ℕ → Bool → Wanted
wanted_of host port target minor head_alone = record { head_alone = head_alone; minor = minor; kind = target.kind; key = key_of host port (asked_of target) }

-- the first request of these bytes is one for what the other server has
pub record Wants (host : List ℕ) (port : ℕ) (bytes : List ℕ) (w : Wanted) : Type 0 where
  pub head : RequestHead
  pub rest : List ℕ
  pub asked : Asked
  pub first : FirstRequest bytes head rest
  pub served : is_other head.method ≡ false
  pub target : target_of head.target ≡ Some asked
  pub file : asked.kind ≢ Ver
  pub is_wanted : w ≡ record { head_alone = is_head head; minor = head.minor; kind = asked.kind; key = key_of host port asked }

-- what a head is answered that asks nothing of the other server: the first cause that there is, or the version
abbrev pub AnswersEarly : RequestHead → Given → Type 0
AnswersEarly head given =
    ((is_other head.method ≡ true) × (given ≡ refused BadMethod))
    ⊎ (((is_other head.method ≡ false) × (target_of head.target ≡ None) × (given ≡ refused BadTarget))
    ⊎ ((is_other head.method ≡ false) × ((asked : Asked) × (target_of head.target ≡ Some asked) × (asked.kind ≡ Ver)) × (given ≡ text Ver version)))

-- bytes that are no request, or whose first request is answered so
abbrev pub IsEarly : List ℕ → Bool → Given → Type 0
IsEarly bytes head_alone given =
    ((head_alone ≡ false) × (((given ≡ refused BadRequest) × IsBadRequest bytes) ⊎ ((given ≡ refused HeadTooLong) × IsTooLong bytes)))
    ⊎ ((head : RequestHead) × (rest : List ℕ) × FirstRequest bytes head rest × (head_alone ≡ is_head head) × AnswersEarly head given)

-- the head alone is wanted of a reply where the method HEAD was read
abbrev pub IsAlone : List ℕ → Bool → Type 0
IsAlone bytes head_alone =
    ((head_alone ≡ false) × HasNoRequest bytes)
    ⊎ ((head : RequestHead) × (rest : List ℕ) × FirstRequest bytes head rest × (head_alone ≡ is_head head))

-- what one connection comes to
pub data Turn : Type 0 where
  -- it is answered before anything is asked of the other server
  early : Bool → Given → Turn
  -- the body is in the cache
  hit : Wanted → List ℕ → Turn
  -- it is not, and this is answered by what the other server's reply brought
  miss : Wanted → BodyOutcome → Turn
  -- memory was wanted
  no_memory : Bool → Turn

-- A hit is exactly where the request to the other server is in the cache
abbrev pub IsTurn : List ℕ → ℕ → List (List ℕ × List ℕ) → List ℕ → Turn → Type 0
IsTurn host port pairs bytes (early head_alone given) = IsEarly bytes head_alone given
IsTurn host port pairs bytes (hit w body) = Wants host port bytes w × (lookup (bytes_eq w.key) pairs ≡ Some body)
IsTurn host port pairs bytes (miss w outcome) = Wants host port bytes w × (lookup (bytes_eq w.key) pairs ≡ None) × (outcome ≢ Memory)
IsTurn host port pairs bytes (no_memory head_alone) = IsAlone bytes head_alone

-- the reply. On a hit that to GET has the kept body, and that to HEAD is its head
abbrev pub reply_of : Turn → List ℕ
reply_of (early head_alone given) = reply head_alone 1 given
reply_of (hit w body) = reply w.head_alone w.minor (text w.kind body)
reply_of (miss w outcome) = reply w.head_alone w.minor (given_for w.kind outcome)
reply_of (no_memory head_alone) = reply head_alone 1 (refused OutOfMemory)

abbrev pub status_in : Turn → ℕ
status_in (early head_alone given) = given_status given
status_in (hit w body) = 200
status_in (miss w outcome) = given_status (given_for w.kind outcome)
status_in (no_memory head_alone) = 503

abbrev pub is_hit : Turn → Bool
is_hit (hit w body) = true
is_hit turn = false

-- A body that is small is put in front, where a full cache drops its last pair; on a hit the pair moves to the front; in
-- every other case the cache is unchanged.
abbrev pub kept_with : ℕ → List ℕ → Given → List (List ℕ × List ℕ) → List (List ℕ × List ℕ)
kept_with room key (text kind body) pairs = if nat_le (length body) most_kept then (key, body) ∷ take (room - 1) pairs else pairs
kept_with room key (server_error object) pairs = pairs
kept_with room key (refused cause) pairs = pairs

abbrev pub pairs_after : ℕ → List (List ℕ × List ℕ) → Turn → List (List ℕ × List ℕ)
pairs_after room pairs (early head_alone given) = pairs
pairs_after room pairs (hit w body) = promoted (bytes_eq w.key) pairs
pairs_after room pairs (miss w outcome) = kept_with room w.key (given_for w.kind outcome) pairs
pairs_after room pairs (no_memory head_alone) = pairs

-- What was asked of the other server: nothing but on a miss, where the outcome is that of the link of this call, which was
-- connected to the given host and port. Memory may have been wanted behind that
abbrev pub Asks : {W : Type 0} → (W → LinkState) → Type 0 → List ℕ → ℕ → List (List ℕ × List ℕ) → List ℕ → DialState W → DialState W → Turn → Type 0
Asks state NotCalled host port pairs bytes a b (early head_alone given) = NotCalled
Asks state NotCalled host port pairs bytes a b (hit w body) = NotCalled
Asks state NotCalled host port pairs bytes a b (miss w outcome) = Dials state host port (form_of w.kind) w.key a b outcome
Asks state NotCalled host port pairs bytes a b (no_memory head_alone) =
    NotCalled ⊎ ((w : Wanted) × (outcome : BodyOutcome) × Wants host port bytes w × (lookup (bytes_eq w.key) pairs ≡ None) × Dials state host port (form_of w.kind) w.key a b outcome)

-- a reply of that status was put, or where the sink failed a front of it, and not all
abbrev pub Puts : List ℕ → ℕ → Bool → Option (List ℕ) → Option (List ℕ) → Relayed → Type 0
Puts answer status kept old new (Replied s h) = Appends old new answer × (s ≡ status) × (h ≡ kept)
Puts answer status kept old new WriteFault = (part : List ℕ) × Appends old new part × IsProperFront part answer
Puts answer status kept old new other = ⊥

-- what a link was given of a reply, and a cache before and behind it
pub record Standing : Type 0 where
  pub written : Option (List ℕ)
  pub pairs : List (List ℕ × List ℕ)

-- the connection, of which these bytes were taken, comes to this turn
pub record ComesTo {W : Type 0} (state : W → LinkState) (NotCalled : Type 0) (host : List ℕ) (port : ℕ) (room : ℕ) (bytes : List ℕ)
    (before now : Standing) (a b : DialState W) (result : Relayed) : Type 0 where
  pub turn : Turn
  -- by the request and by whether its key is in the cache
  pub is_turn : IsTurn host port before.pairs bytes turn
  -- its reply and no other was put, and told with its status
  pub puts : Puts (reply_of turn) (status_in turn) (is_hit turn) before.written now.written result
  -- the other server was asked on a miss alone
  pub asks : Asks state NotCalled host port before.pairs bytes a b turn
  -- a small good body was put in front, or the pair of a hit moved there, or the cache is unchanged
  pub keeps : now.pairs ≡ pairs_after room before.pairs turn

-- or the client was gone, or could not be read, and nothing was put, asked or kept
abbrev pub EndsUnasked : List ℕ → Bool → Relayed → Type 0
EndsUnasked bytes ended Gone = IsTrue ended × IsGone bytes
EndsUnasked bytes ended ReadFault = HasNoRequest bytes
EndsUnasked bytes ended other = ⊥

pub record IsUnrelayed (NotCalled : Type 0) (bytes : List ℕ) (ended : Bool) (before now : Standing) (result : Relayed) : Type 0 where
  pub ends : EndsUnasked bytes ended result
  pub same : now ≡ before
  pub not_called : NotCalled

abbrev pub Relays : {W : Type 0} → (W → LinkState) → Type 0 → List ℕ → ℕ → ℕ → List ℕ → Bool → Standing → Standing → DialState W → DialState W → Relayed → Type 0
Relays state NotCalled host port room bytes ended before now a b result =
    IsUnrelayed NotCalled bytes ended before now result ⊎ ComesTo state NotCalled host port room bytes before now a b result

-- what goes out of a reply: its head alone, or the body behind it, framed
abbrev pub extent_text : Extent → List ℕ → List ℕ
extent_text (HeadAlone head) body = head
extent_text (WithBody framer) body = front_of framer ++ framed framer.chunked body

abbrev pub ready_text : Ready → List ℕ → List ℕ
ready_text r body = extent_text r.extent body

-- a reply of a kept or a good body, or its head alone
abbrev pub IsReady : Kind → ℕ → Bool → List ℕ → Ready → Type 0
IsReady kind minor head_alone body r = (ready_text r body ≡ reply head_alone minor (text kind body)) × (r.status ≡ 200)

-- or in its place that for a want of memory
abbrev pub MayPut : List ℕ → ℕ → Bool → Option (List ℕ) → Option (List ℕ) → Relayed → Type 0
MayPut answer status head_alone old new result =
    Puts answer status false old new result ⊎ Puts (reply head_alone 1 (refused OutOfMemory)) 503 false old new result
