-- What is fetched over a connection (RFC 9112, sections 3 and 9): the requests that go out, the replies that come
-- back one behind the other, and the link that is handed back. That no reply is read behind one that is not
-- whole and good is this project's.
use Rattle.std.specs.Prelude.{◌≡◌, ℕ, zero, suc, ◌+◌, ◌≤◌, ◌⊎◌, ⊤, Bool, true, false, if◌then◌else◌, ◌==◌, IsTrue, List, [], ◌∷◌, ◌++◌, All, length, map, Option, Some}
use Rattle.std.specs.List.{flat_map}
use Rattle.std.specs.Option.{option_map}
use Rattle.std.specs.Io.KnownBytes.{Appends, Consumes}
use Rattle.dap_outside.specs.Causes.{Rose}
use Rattle.dap_outside.specs.Links.{IsNew, LinkState}
use Rattle.dap_outside.specs.declared.streams.Source.{Ghosts as Reading}
use Rattle.dap_outside.specs.declared.streams.Sink.{Ghosts as Writing}
use Rattle.dap_outside.specs.Streams.{AppendsFront}
use Rattle.dap_http.specs.Delivered.{Delivers}
use Rattle.dap_http.specs.Texts.{request_text}
use Rattle.dap_http.specs.Urls.{UrlParts, url_of}
use Rattle.dap_http.specs.declared.kind.Kind.{Kind}
use Rattle.dap_http.specs.declared.url.Url.{Url}
use Rattle.dap_client.specs.Answered.{Tells}
use Rattle.dap_client.specs.Outcomes.{outcome_of}
use Rattle.dap_client.specs.Replies.{IsReplyVerdict, StopsInTime, form_of}
use Rattle.dap_client.specs.Verdict.{Form, Verdict, IsVerdict}
use Rattle.dap_client.specs.declared.fetching.Fetched.{Fetched}
use Rattle.dap_client.specs.declared.outcome.Outcome.{Outcome}
use Rattle.dap_client.specs.declared.outcome.Outcome.TheVariants.{Complete, ReadFault, WriteFault, LinkFault, Memory}

-- ---- What is asked.

abbrev pub parts_of : Url → UrlParts
parts_of u = record { host = u.host; port = u.port; path = u.path }

-- some text says it
abbrev pub IsUrl : Url → Type 0
IsUrl u = (text : List ℕ) × (url_of text ≡ Some (parts_of u))

-- a request for each constraint, in their order; the last alone asks that the connection ends behind its reply
abbrev pub requests_text : UrlParts → Kind → List (List ℕ) → List ℕ
requests_text u kind [] = []
requests_text u kind (ce ∷ ces) = request_text u.host u.port u.path kind ce (length ces == 0) ++ requests_text u kind ces

-- ---- The replies that were read.

-- the bytes that were taken for it, whether their end was told then, the bytes that wait behind its framing, what was
-- put of it, and its outcome
pub record Reply : Type 0 where
  pub taken : List ℕ
  pub ended : Bool
  pub rest : List ℕ
  pub text : List ℕ
  pub outcome : Outcome

-- each outcome is told by the bytes that waited behind the framing before and those that were taken
abbrev pub AreRead : Form → List ℕ → List Reply → Type 0
AreRead form waiting [] = ⊤
AreRead form waiting (r ∷ replies) = Tells form (waiting ++ r.taken) r.ended r.rest r.text r.outcome × AreRead form r.rest replies

-- of each of them no more is taken than `StopsInTime` lets
abbrev pub AreInTime : Form → List ℕ → List Reply → Type 0
AreInTime form waiting [] = ⊤
AreInTime form waiting (r ∷ replies) = StopsInTime form (waiting ++ r.taken) × AreInTime form r.rest replies

abbrev pub all_taken : List Reply → List ℕ
all_taken replies = flat_map (λ r. r.taken) replies

abbrev pub all_put : List Reply → List ℕ
all_put replies = flat_map (λ r. r.text) replies

abbrev pub is_complete : Outcome → Bool
is_complete (Complete bytes) = true
is_complete outcome = false

abbrev pub count_of : Outcome → ℕ
count_of outcome = if is_complete outcome then 1 else 0

-- a fault, or a want of memory: it says nothing of the reply
abbrev pub is_fault : Outcome → Bool
is_fault ReadFault = true
is_fault WriteFault = true
is_fault LinkFault = true
is_fault Memory = true
is_fault outcome = false

-- Replies up to the first that is not `Complete`, of n that were asked for: the number of those that are, and the
-- last outcome
pub record AreCounted (n : ℕ) (replies : List Reply) (ended : Bool) (fetched : Fetched) : Type 0 where
  pub before : List Reply
  pub final : Reply
  pub parts : replies ≡ before ++ final ∷ []
  pub complete : All (λ r. IsTrue (is_complete r.outcome)) before
  pub most : length before + 1 ≤ n
  pub stops : IsTrue (is_complete final.outcome) → length before + 1 ≡ n
  pub is_last : fetched.last ≡ final.outcome
  pub whole : fetched.whole ≡ length before + count_of final.outcome
  pub is_ended : final.ended ≡ ended

-- ---- Their verdicts.

-- it is that of a verdict on the reply at the front of these bytes, unless it is a fault
abbrev pub SaysVerdict : Form → List ℕ → Outcome → Type 0
SaysVerdict form bytes outcome = is_fault outcome ≡ false → (n : ℕ) × (v : Verdict) × IsReplyVerdict form bytes n v × (outcome ≡ outcome_of n v)

-- a whole reply with its verdict, behind which the others stand
pub record IsFirst (form : Form) (bytes : List ℕ) (v : Verdict) (n : ℕ) (rest : List ℕ) : Type 0 where
  pub body : List ℕ
  pub delivers : Delivers bytes true body rest
  pub verdict : IsVerdict form body v
  pub count : n ≡ length body

-- of replies that stand one behind the other in these bytes
abbrev pub AreVerdicts : Form → List ℕ → List Outcome → Type 0
AreVerdicts form bytes [] = ⊤
AreVerdicts form bytes (o ∷ []) = SaysVerdict form bytes o
AreVerdicts form bytes (o ∷ next ∷ outcomes) =
    (n : ℕ) × (v : Verdict) × (rest : List ℕ) × IsFirst form bytes v n rest × (o ≡ outcome_of n v) × AreVerdicts form rest (next ∷ outcomes)

-- so many stand there, each whole and good
abbrev pub AreGood : Form → ℕ → List ℕ → Type 0
AreGood form zero bytes = ⊤
AreGood form (suc n) bytes =
    (m : ℕ) × (v : Verdict) × (rest : List ℕ) × IsFirst form bytes v m rest × IsTrue (is_complete (outcome_of m v)) × AreGood form n rest

-- ---- The link and the sink.

-- what a link tells, and how often it failed
abbrev pub link_state : {L : Type 0} → Reading L → Writing L → L → LinkState
link_state source sink l = record {
  whole = source.whole l;
  left = source.left l;
  ended = source.ended l;
  written = sink.written l;
  take_faults = source.take_faults l;
  put_faults = sink.put_faults l;
}

-- what a sink has, and how often it failed
pub record SinkState : Type 0 where
  pub written : Option (List ℕ)
  pub faults : ℕ

-- it failed before the requests were out: some of them went, from the front, and nothing was read
pub record IsUnasked (request : List ℕ) (came back : LinkState) (before now : SinkState) (fetched : Fetched) : Type 0 where
  pub sent : AppendsFront came.written back.written request
  pub none_taken : back.left ≡ came.left
  pub none_put : now ≡ before
  pub whole : fetched.whole ≡ 0
  pub is_last : fetched.last ≡ WriteFault
  pub fault : Rose came.put_faults back.put_faults
  pub no_read : back.take_faults ≡ came.take_faults

-- N replies were asked for, and these were read, by what the source has left and whether its end is told, and by what the
-- sink has. Where the source tells what it had left, each outcome is the verdict on the reply that stands there, and all
-- are `Complete` exactly where n good replies stand there, but for faults.
pub record IsReadFrom (form : Form) (n : ℕ) (came back : Option (List ℕ)) (ended : Bool) (before now : Option (List ℕ)) (fetched : Fetched) : Type 0 where
  pub replies : List Reply
  pub taken : Consumes came back (all_taken replies)
  pub put : Appends before now (all_put replies)
  pub read : AreRead form [] replies
  pub in_time : AreInTime form [] replies
  pub counted : AreCounted n replies ended fetched
  pub verdicts : (input : List ℕ) → came ≡ Some input → AreVerdicts form input (map (λ r. r.outcome) replies)
  pub good : (input : List ℕ) → came ≡ Some input → fetched.whole ≡ n → AreGood form n input
  pub complete : (input : List ℕ) → came ≡ Some input → AreGood form n input → is_fault fetched.last ≡ false → fetched.whole ≡ n

-- the requests for n replies went out, and the replies were read; a fault came only where its count rose, and with any
-- other outcome the count is what it was
pub record IsAsked (form : Form) (n : ℕ) (request : List ℕ) (came back : LinkState) (before now : SinkState) (fetched : Fetched) : Type 0 where
  pub sent : Appends came.written back.written request
  pub read : IsReadFrom form n came.left back.left back.ended before.written now.written fetched
  pub read_fault : fetched.last ≡ ReadFault → Rose came.take_faults back.take_faults
  pub write_fault : fetched.last ≡ WriteFault → Rose before.faults now.faults
  pub kept_reading : ¬ (fetched.last ≡ ReadFault) → back.take_faults ≡ came.take_faults
  pub kept_writing : ¬ (fetched.last ≡ WriteFault) → now.faults ≡ before.faults
  pub kept_sending : back.put_faults ≡ came.put_faults

-- over a link as it came and as it was handed back
pub record IsFetchedOver (form : Form) (n : ℕ) (request : List ℕ) (came back : LinkState) (before now : SinkState) (fetched : Fetched) : Type 0 where
  pub is_new : IsNew came
  pub whole : back.whole ≡ came.whole
  pub asked : IsUnasked request came back before now fetched ⊎ IsAsked form n request came back before now fetched

-- ---- The dial.

-- the links that came back to a dial, and how often it failed
pub record DialState (W : Type 0) : Type 0 where
  pub back : Option (List ((List ℕ × ℕ) × W))
  pub faults : ℕ

-- no link was connected, and nothing was put: the dial failed, or memory was wanted
abbrev pub IsUnconnected : {W : Type 0} → DialState W → DialState W → SinkState → SinkState → Fetched → Type 0
IsUnconnected a b before now fetched =
    (b.back ≡ a.back) × (now ≡ before) × (fetched.whole ≡ 0)
    × (((fetched.last ≡ LinkFault) × Rose a.faults b.faults) ⊎ ((fetched.last ≡ Memory) × (b.faults ≡ a.faults)))

-- A link was connected to the URL's host and port and asked for these constraints. It was handed back, and is the last of
-- the dial's list.
pub record IsConnected {W : Type 0} (state : W → LinkState) (u : UrlParts) (kind : Kind) (ces : List (List ℕ)) (a b : DialState W) (before now : SinkState) (fetched : Fetched) : Type 0 where
  pub came : W
  pub link : W
  pub back : b.back ≡ option_map (λ links. links ++ ((u.host, u.port), link) ∷ []) a.back
  pub over : IsFetchedOver (form_of kind) (length ces) (requests_text u kind ces) (state came) (state link) before now fetched

abbrev pub Fetches : {W : Type 0} → (W → LinkState) → UrlParts → Kind → List (List ℕ) → DialState W → DialState W → SinkState → SinkState → Fetched → Type 0
Fetches state u kind ces a b before now fetched =
    IsUnconnected a b before now fetched ⊎ IsConnected state u kind ces a b before now fetched
