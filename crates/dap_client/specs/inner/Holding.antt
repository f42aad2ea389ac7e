-- How far a body is that is read into memory.
use Rattle.std.specs.Prelude.{◌≡◌, ◌≢◌, ℕ, ◌<◌, ◌≤◌, ⊤, Bool, true, not, List, ◌++◌, length, take, Result, Ok, Err}
use Rattle.reply_faults.specs.declared.bad.BadField.{BadField}
use Rattle.dap_http.specs.Delivered.{HasCome, IsBrokenBody, IsWholeBody}
use Rattle.dap_http.specs.declared.coding.Coding.{Coding}
use Rattle.dap_http.specs.declared.kind.Kind.TheVariants.{Ver}
use Rattle.dap_client.specs.After.{BodyStandsAfter, form_in}
use Rattle.dap_client.specs.Answered.{IsLasting}
use Rattle.dap_client.specs.Held.{IsLong, IsNeverLong, SaysOf}
use Rattle.dap_client.specs.Verdict.{Form, Verdict, IsVerdict, is_fault, is_final}
use Rattle.dap_client.specs.declared.body.Body.{Body}
use Rattle.dap_client.specs.declared.body_outcome.BodyOutcome.{BodyOutcome}
use Rattle.dap_client.specs.declared.body_outcome.BodyOutcome.TheVariants.{Good, ServerError, Bad, TooLarge, Memory}
use Rattle.dap_client.specs.declared.holding.Held.{Held}
use Rattle.dap_client.specs.declared.holding.Held.TheVariants.{All, Longer}
use Rattle.dap_client.specs.declared.holding.Holding.{Holding}
use Rattle.dap_client.specs.declared.outcome.Outcome.{Outcome}
use Rattle.dap_client.specs.declared.outcome.Outcome.TheVariants as outcome

-- the reader was given these bytes
abbrev pub IsAfter : Body → List ℕ → Type 0
IsAfter reader bytes = (put : List ℕ) × BodyStandsAfter reader bytes put

-- as many bytes as the limit came of it, or more, and these alone are bad
abbrev pub IsFull : Form → ℕ → List ℕ → Type 0
IsFull form limit body = (limit ≤ length body) × ((v : Verdict) × IsVerdict form (take limit body) v × (is_final v ≡ true))

-- all bytes of it are held, or there are more than the limit, and the first of them alone are bad
abbrev pub IsHeld : Form → ℕ → List ℕ → Held → Type 0
IsHeld form limit body (All kept) = (kept.items ≡ body) × (length body ≤ limit)
IsHeld form limit body Longer = (limit < length body) × ((v : Verdict) × IsVerdict form (take limit body) v × (is_final v ≡ true))

pub record IsHolding (form : Form) (limit : ℕ) (body : List ℕ) (h : Holding) : Type 0 where
  pub after : IsAfter h.reader body
  pub is_form : form_in h.reader ≡ form
  pub is_limit : h.limit ≡ limit
  pub held : IsHeld form limit body h.held
  pub not_version : h.reader.kind ≢ Ver

-- some body
abbrev pub Holds : Holding → Type 0
Holds h = (form : Form) × (limit : ℕ) × (body : List ℕ) × IsHolding form limit body h

-- what is said of the bytes that a reader was given: it stands after them; or they are bad, whatever follows
abbrev pub IsJudged : Form → List ℕ → Result Body BodyOutcome → Type 0
IsJudged form bytes (Ok reader) = IsAfter reader bytes × (form_in reader ≡ form)
IsJudged form bytes (Err (Bad field)) = IsLasting form bytes field
IsJudged form bytes (Err Memory) = ⊤
IsJudged form bytes (Err other) = ⊥

-- and where they are held, up to the limit
abbrev pub IsTaken : Form → ℕ → List ℕ → Result Holding BodyOutcome → Type 0
IsTaken form limit body (Ok h) = IsHolding form limit body h
IsTaken form limit body (Err (Bad field)) = IsLasting form body field × IsNeverLong form limit body
IsTaken form limit body (Err TooLarge) = IsLong form limit body
IsTaken form limit body (Err Memory) = ⊤
IsTaken form limit body (Err other) = ⊥

-- whether nothing else is wrong with bytes than that they end
abbrev pub IsGoing : Form → List ℕ → Result Bool BodyOutcome → Type 0
IsGoing form bytes (Ok going) = (v : Verdict) × IsVerdict form bytes v × (is_final v ≡ not going)
IsGoing form bytes (Err Memory) = ⊤
IsGoing form bytes (Err other) = ⊥

-- by the bytes behind a head
abbrev pub SaysBehind : Form → ℕ → Coding → List ℕ → Bool → BodyOutcome → Type 0
SaysBehind form limit coding bytes ended outcome =
    SaysOf (λ body. (rest : List ℕ) × IsWholeBody coding bytes ended body rest) (λ body wrong. IsBrokenBody coding bytes ended body wrong)
    (λ body. (front : List ℕ) × (behind : List ℕ) × (bytes ≡ front ++ behind) × HasCome coding front body) form limit outcome

-- a reader that reads no more says that something is wrong, or that memory was wanted
abbrev pub IsEnding : Outcome → Type 0
IsEnding (outcome.BadReply field) = ⊤
IsEnding outcome.Memory = ⊤
IsEnding other = ⊥

abbrev pub ending_of : Outcome → BodyOutcome
ending_of (outcome.BadReply field) = Bad field
ending_of other = Memory

-- what is told of a body that was held, and of one that was not, which there is never
abbrev pub held_as_good : Held → BodyOutcome
held_as_good (All kept) = Good kept.items
held_as_good Longer = Memory

abbrev pub held_as_error : Held → BodyOutcome
held_as_error (All kept) = ServerError kept.items
held_as_error Longer = Memory

-- neither end of a connection failed
abbrev pub HasNoFault : Outcome → Type 0
HasNoFault outcome.ReadFault = ⊥
HasNoFault outcome.WriteFault = ⊥
HasNoFault outcome.LinkFault = ⊥
HasNoFault other = ⊤

-- whether nothing else was wrong with bytes than that they ended
abbrev pub going_of : Outcome → Result Bool BodyOutcome
going_of (outcome.Complete n) = Ok true
going_of (outcome.ServerError code message) = Ok true
going_of (outcome.BadReply field) = Ok (not (is_fault field.kind))
going_of other = Err Memory

-- what is told of a body that has ended, of which this is held
abbrev pub whole_of : Held → Outcome → BodyOutcome
whole_of held (outcome.Complete n) = held_as_good held
whole_of held (outcome.ServerError code message) = held_as_error held
whole_of held other = ending_of other

-- what is said of a body that ends, and of one that breaks off
abbrev pub SaysWhole : Form → ℕ → List ℕ → BodyOutcome → Type 0
SaysWhole form limit body outcome = SaysOf (λ b. b ≡ body) (λ b w. ⊥) (λ b. ⊥) form limit outcome

abbrev pub SaysBroken : Form → ℕ → List ℕ → BadField → BodyOutcome → Type 0
SaysBroken form limit body wrong outcome = SaysOf (λ b. ⊥) (λ b w. (b ≡ body) × (w ≡ wrong)) (λ b. ⊥) form limit outcome
