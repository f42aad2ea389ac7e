-- What the outcome of a reply says of the bytes behind its heads.
use Rattle.std.specs.Prelude.{◌≡◌, ℕ, ◌≤◌, ◌⊎◌, Bool, List, [], ◌++◌, length, take}
use Rattle.dap_types.specs.Limits.{body_limit, most_piece}
use Rattle.dap_model.specs.Received.{HasHead}
use Rattle.xdr_decode.specs.Verdict.{budget}
use Rattle.dap_http.specs.Delivered.{HasCome, IsBrokenBody, IsWholeBody}
use Rattle.dap_http.specs.Following.{waiting}
use Rattle.dap_http.specs.declared.body_parts.BodyParts.{BodyParts}
use Rattle.dap_http.specs.declared.coding.Coding.{Coding}
use Rattle.dap_client.specs.Answered.{BreaksBad, BringsBad, DeliversBad, ShowsBroken, ShowsStopped, text_shown}
use Rattle.dap_client.specs.Outcomes.{outcome_of}
use Rattle.dap_client.specs.Replies.{Settles}
use Rattle.dap_client.specs.Verdict.{Form, Verdict, IsVerdict, dods_form, server_error}
use Rattle.dap_client.specs.declared.outcome.Outcome.{Outcome}
use Rattle.dap_client.specs.declared.outcome.Outcome.TheVariants.{Complete, ServerError, BadReply, ReadFault, WriteFault, LinkFault, Memory}

-- some bytes from the front bring this much of the body
abbrev pub BringsBehind : Coding → List ℕ → List ℕ → Type 0
BringsBehind coding bytes body = (front : List ℕ) × (behind : List ℕ) × (bytes ≡ front ++ behind) × HasCome coding front body

abbrev pub ShowsUnputBehind : Form → Coding → List ℕ → Bool → List ℕ → List ℕ → Type 0
ShowsUnputBehind dods_form coding bytes ended rest text =
    (front : List ℕ) × (behind : List ℕ) × (body : List ℕ) × (bytes ≡ front ++ behind) × HasCome coding front body × ShowsBroken dods_form (take budget body) text
ShowsUnputBehind form coding bytes ended rest text = (body : List ℕ) × IsWholeBody coding bytes ended body rest × ShowsBroken form body text

-- at most a piece was taken behind the `Data:` line
abbrev pub TakesFewValuesBehind : Coding → List ℕ → Type 0
TakesFewValuesBehind coding bytes = (front more body : List ℕ) → bytes ≡ front ++ more → HasCome coding front body → HasHead body → length more ≤ most_piece

abbrev pub IsToldBehind : Form → Coding → List ℕ → Bool → List ℕ → List ℕ → Outcome → Type 0
IsToldBehind form coding bytes ended rest text (Complete n) =
    (body : List ℕ) × (v : Verdict) × IsWholeBody coding bytes ended body rest × IsVerdict form body v × (outcome_of (length body) v ≡ Complete n) × (text ≡ text_shown n v)
IsToldBehind form coding bytes ended rest text (ServerError code message) =
    (body : List ℕ) × IsWholeBody coding bytes ended body rest × IsVerdict form body (server_error (record { code = code; message = message })) × (text ≡ [])
IsToldBehind form coding bytes ended rest text (BadReply field) =
    BringsBad form (λ body. BringsBehind coding bytes body) field text
    ⊎ (DeliversBad form (λ body. IsWholeBody coding bytes ended body rest) field text ⊎ BreaksBad form (λ body wrong. IsBrokenBody coding bytes ended body wrong) field text)
IsToldBehind form coding bytes ended rest text ReadFault =
    (body : List ℕ) × HasCome coding bytes body × ShowsStopped form body text
IsToldBehind form coding bytes ended rest text WriteFault = ShowsUnputBehind form coding bytes ended rest text
IsToldBehind form coding bytes ended rest text LinkFault = ⊥
IsToldBehind form coding bytes ended rest text Memory = (text ≡ []) × (form ≡ dods_form → TakesFewValuesBehind coding bytes)

-- what was taken behind a head, as `StopsInTime` has it
pub record StopsBehind (form : Form) (coding : Coding) (bytes : List ℕ) : Type 0 where
  pub settled : (front more : List ℕ) → bytes ≡ front ++ more → Settles form coding front → length more ≤ most_piece
  pub body : (body : List ℕ) → HasCome coding bytes body → length body ≤ body_limit

-- where the bytes wait that stand behind the framing
abbrev pub TellsBehind : Form → Coding → List ℕ → Bool → BodyParts → List ℕ → Outcome → Type 0
TellsBehind form coding bytes ended parts text outcome = IsToldBehind form coding bytes ended (waiting parts) text outcome
