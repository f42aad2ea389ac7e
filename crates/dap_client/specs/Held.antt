-- A body that is read into memory, up to a limit on its bytes, and what is told of it. The limit is this project's.
use Rattle.std.specs.Prelude.{◌≡◌, ℕ, ◌<◌, ◌≤◌, ◌⊎◌, ⊤, Bool, false, true, List, ◌++◌, length, take}
use Rattle.reply_faults.specs.declared.bad.BadField.{BadField}
use Rattle.dap_http.specs.Delivered.{BreaksOff, Delivers, HasCoding}
use Rattle.dap_http.specs.declared.coding.Coding.{Coding}
use Rattle.dap_client.specs.Answered.{IsLasting}
use Rattle.dap_client.specs.Replies.{BringsFirst, first_of}
use Rattle.dap_client.specs.Verdict.{Form, Verdict, IsVerdict, bad, good, good_das, good_dds, is_final, server_error}
use Rattle.dap_client.specs.declared.body_outcome.BodyOutcome.{BodyOutcome}
use Rattle.dap_client.specs.declared.body_outcome.BodyOutcome.TheVariants.{Good, ServerError, Bad, TooLarge, ReadFault, Memory}

-- More bytes than the limit came of a body, and the verdict on the first of them alone, as many as the limit, is that
-- they are good, an Error object, or cut.
pub record IsLong (form : Form) (limit : ℕ) (body : List ℕ) : Type 0 where
  pub longer : limit < length body
  pub front : Verdict
  pub verdict : IsVerdict form (take limit body) front
  pub going : is_final front ≡ false

-- nor does it become so, whatever follows
abbrev pub IsNeverLong : Form → ℕ → List ℕ → Type 0
IsNeverLong form limit body = (more : List ℕ) → ¬ (IsLong form limit (body ++ more))

-- what is told of a body with that verdict
abbrev pub told_of : List ℕ → Verdict → BodyOutcome
told_of body (good d ts) = Good body
told_of body (good_dds d) = Good body
told_of body (good_das a) = Good body
told_of body (server_error e) = ServerError body
told_of body (bad kind place) = Bad (record { kind = kind; place = place })

-- it has a verdict, which is told so
abbrev pub IsToldOf : Form → List ℕ → BodyOutcome → Type 0
IsToldOf form body outcome = (v : Verdict) × IsVerdict form body v × (told_of body v ≡ outcome)

-- What an outcome says, where a whole body, a body that broke off for a reason, and the first bytes of a body, are
-- known by what came. A fault and a want of memory say nothing of it.
abbrev pub SaysOf : (List ℕ → Type 0) → (List ℕ → BadField → Type 0) → (List ℕ → Type 0) → Form → ℕ → BodyOutcome → Type 0
SaysOf Whole Broken First form limit (Good body) = Whole body × IsToldOf form body (Good body) × (length body ≤ limit)
SaysOf Whole Broken First form limit (ServerError body) = Whole body × IsToldOf form body (ServerError body) × (length body ≤ limit)
SaysOf Whole Broken First form limit (Bad field) =
    ((body : List ℕ) × First body × IsLasting form body field × IsNeverLong form limit body)
    ⊎ (((body : List ℕ) × Whole body × IsVerdict form body (bad field.kind field.place) × ¬ (IsLong form limit body))
    ⊎ ((body : List ℕ) × (wrong : BadField) × (front : Verdict) × Broken body wrong × IsVerdict form body front
    × (bad field.kind field.place ≡ first_of front wrong) × ¬ (IsLong form limit body)))
SaysOf Whole Broken First form limit TooLarge = (body : List ℕ) × First body × IsLong form limit body
SaysOf Whole Broken First form limit ReadFault = ⊤
SaysOf Whole Broken First form limit Memory = ⊤

-- by the bytes of a reply, and whether they have ended
abbrev pub Says : Form → ℕ → List ℕ → Bool → BodyOutcome → Type 0
Says form limit reply ended outcome =
    SaysOf (λ body. (rest : List ℕ) × Delivers reply ended body rest) (λ body wrong. BreaksOff reply ended body wrong) (λ body. BringsFirst reply body) form limit outcome

-- nothing but a fault, or a want of memory, comes in place of this outcome
abbrev pub IsTold : BodyOutcome → BodyOutcome → Type 0
IsTold outcome ReadFault = ⊤
IsTold outcome Memory = ⊤
IsTold outcome told = told ≡ outcome

-- whatever is so of a whole reply is what the outcome tells, but for a fault or want of memory
pub record IsExact (form : Form) (limit : ℕ) (reply : List ℕ) (outcome : BodyOutcome) : Type 0 where
  pub too_large : (body : List ℕ) → BringsFirst reply body → IsLong form limit body → IsTold TooLarge outcome
  pub whole : (body rest : List ℕ) (v : Verdict) → Delivers reply true body rest → IsVerdict form body v → ¬ (IsLong form limit body) → IsTold (told_of body v) outcome
  pub broken : (behind body : List ℕ) (coding : Coding) (wrong : BadField) (v : Verdict) → HasCoding reply coding behind → BreaksOff reply true body wrong
      → IsVerdict form body v → ¬ (IsLong form limit body) → IsTold (told_of body (first_of v wrong)) outcome
