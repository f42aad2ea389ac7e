-- A body that is held, and what is said of it where it is bad.
use Rattle.std.proofs.Common.{◌≡◌, ℕ, ◌+◌, ◌-◌, ◌≤◌, Bool, true, false, not, List, [], ◌++◌, length, take, Err, refl, sym, ap, ◌∙◌, subst, arith, append_assoc, append-nil, length-append, inl, inr}
use Rattle.std.specs.Prelude.{ℤ}
use Rattle.std.proofs.Math.Seq.{take-append-add}
use Rattle.std.proofs.lemmas.Bool.{false≢true}
use Rattle.std.proofs.lemmas.List.{take-append-le}
use Rattle.reply_faults.specs.declared.bad.Bad.{Bad as BadKind}
use Rattle.reply_faults.specs.declared.bad.Bad.TheVariants as kind
use Rattle.reply_faults.specs.declared.bad.BadField.{BadField}
use Rattle.dap_client.proofs.OneVerdict.{one_verdict}
use Rattle.dap_client.proofs.Only.{lasting_end}
use Rattle.dap_client.specs.After.{IsBrokenOff, IsFinished, IsStopped}
use Rattle.dap_client.specs.Answered.{IsLasting}
use Rattle.dap_client.specs.Held.{IsLong, IsNeverLong, IsToldOf, SaysOf, told_of}
use Rattle.dap_client.specs.Outcomes.{outcome_of}
use Rattle.dap_client.specs.Verdict.{Form, Verdict, IsVerdict, bad, good, good_das, good_dds, is_fault, is_final, server_error}
use Rattle.dap_client.specs.inner.Holding.{HasNoFault, IsEnding, IsFull, IsGoing, IsHeld, IsJudged, IsTaken, SaysBroken, SaysWhole, ending_of, going_of, held_as_error, held_as_good, whole_of}
use Rattle.dap_client.specs.declared.body_outcome.BodyOutcome.{BodyOutcome}
use Rattle.dap_client.specs.declared.body_outcome.BodyOutcome.TheVariants.{Good, ServerError, Bad, TooLarge, ReadFault, Memory}
use Rattle.dap_client.specs.declared.holding.Held.{Held}
use Rattle.dap_client.specs.declared.holding.Held.TheVariants.{All, Longer}
use Rattle.dap_client.specs.declared.outcome.Outcome.{Outcome}
use Rattle.dap_client.specs.declared.outcome.Outcome.TheVariants as outcome

-- ---- what is not long

faulty : (k : BadKind) → ¬ (k ≡ kind.Cut) → is_fault k ≡ true
faulty kind.Cut other = absurd (other refl)
faulty k other = refl

final-lasting : (form : Form) (body : List ℕ) (field : BadField) → IsLasting form body field → is_final (bad field.kind field.place) ≡ true
final-lasting form body field lasting = faulty field.kind (lasting_end form body field lasting)

clash : (v w : Verdict) → v ≡ w → is_final v ≡ false → is_final w ≡ true → ⊥
clash v w same going final = false≢true (sym going ∙ ap is_final same ∙ final)

pub never-held : (form : Form) (limit : ℕ) (body : List ℕ) (field : BadField) → length body ≤ limit → IsLasting form body field → IsNeverLong form limit body
never-held form limit body field few lasting = λ more long.
    let room : limit ≡ length body + (limit - length body) = omega (arith, few) in
    let cut : take limit (body ++ more) ≡ body ++ take (limit - length body) more = ap (λ n. take n (body ++ more)) room ∙ take-append-add body more (limit - length body) in
    let told : IsVerdict form (take limit (body ++ more)) (bad field.kind field.place) = subst (λ l. IsVerdict form l (bad field.kind field.place)) (sym cut) (lasting (take (limit - length body) more)) in
    clash long.front (bad field.kind field.place) (one_verdict form (take limit (body ++ more)) long.front (bad field.kind field.place) long.verdict told) long.going (final-lasting form body field lasting)

pub never-longer : (form : Form) (limit : ℕ) (body : List ℕ) (v : Verdict) → limit ≤ length body → IsVerdict form (take limit body) v → is_final v ≡ true → IsNeverLong form limit body
never-longer form limit body v full is final = λ others long.
    let told : IsVerdict form (take limit (body ++ others)) v = subst (λ l. IsVerdict form l v) (sym (take-append-le limit body others full)) is in
    clash long.front v (one_verdict form (take limit (body ++ others)) long.front v long.verdict told) long.going final

pub not-now : (form : Form) (limit : ℕ) (body : List ℕ) → IsNeverLong form limit body → ¬ (IsLong form limit body)
not-now form limit body never long = never [] (subst (λ l. IsLong form limit l) (sym (append-nil body)) long)

pub short-not : (form : Form) (limit : ℕ) (body : List ℕ) → length body ≤ limit → ¬ (IsLong form limit body)
short-not form limit body few long = omega (arith, few, long.longer)

pub not-in : (form : Form) (limit : ℕ) (body : List ℕ) (h : Held) → IsHeld form limit body h → ¬ (IsLong form limit body)
not-in form limit body (All kept) (is, few) = short-not form limit body few
not-in form limit body Longer (more, (v, is, final)) = not-now form limit body (never-longer form limit body v (omega (arith, more)) is final)

-- the first bytes stay what they are, with more behind them
pub full-on : (form : Form) (limit : ℕ) (body part : List ℕ) → IsFull form limit body → IsFull form limit (body ++ part)
full-on form limit body part (full, (v, is, final)) =
    (omega (arith, full, length-append body part), (v, subst (λ l. IsVerdict form l v) (sym (take-append-le limit body part full)) is, final))

pub lasts-on : (form : Form) (body part : List ℕ) (field : BadField) → IsLasting form body field → IsLasting form (body ++ part) field
lasts-on form body part field lasting = λ more. subst (λ l. IsVerdict form l (bad field.kind field.place)) (sym (append_assoc body part more)) (lasting (part ++ more))

pub never-on : (form : Form) (limit : ℕ) (body part : List ℕ) → IsNeverLong form limit body → IsNeverLong form limit (body ++ part)
never-on form limit body part never = λ more long. never (part ++ more) (subst (λ l. IsLong form limit l) (append_assoc body part more) long)

-- ---- a reader that stops

pub ending : (form : Form) (before bytes text : List ℕ) (o : Outcome) → ¬ (o ≡ outcome.WriteFault) → IsStopped form before bytes text o → IsEnding o
ending form before bytes text (outcome.BadReply field) other is = tt
ending form before bytes text outcome.Memory other is = tt
ending form before bytes text outcome.WriteFault other is = absurd (other refl)
ending form before bytes text (outcome.Complete n) other is = absurd is
ending form before bytes text (outcome.ServerError code message) other is = absurd is
ending form before bytes text outcome.ReadFault other is = absurd is
ending form before bytes text outcome.LinkFault other is = absurd is

pub judged-so : (form : Form) (before bytes text : List ℕ) (o : Outcome) → IsStopped form before bytes text o → IsJudged form bytes (Err (ending_of o))
judged-so form before bytes text (outcome.BadReply field) (within, lasting, shows) = lasting
judged-so form before bytes text outcome.Memory is = tt
judged-so form before bytes text outcome.WriteFault is = tt
judged-so form before bytes text (outcome.Complete n) is = absurd is
judged-so form before bytes text (outcome.ServerError code message) is = absurd is
judged-so form before bytes text outcome.ReadFault is = absurd is
judged-so form before bytes text outcome.LinkFault is = absurd is

pub broken-ending : (form : Form) (bytes text : List ℕ) (wrong : BadField) (o : Outcome) → IsBrokenOff form bytes text wrong o → IsEnding o
broken-ending form bytes text wrong (outcome.BadReply field) is = tt
broken-ending form bytes text wrong outcome.Memory is = tt
broken-ending form bytes text wrong outcome.WriteFault is = absurd is
broken-ending form bytes text wrong (outcome.Complete n) is = absurd is
broken-ending form bytes text wrong (outcome.ServerError code message) is = absurd is
broken-ending form bytes text wrong outcome.ReadFault is = absurd is
broken-ending form bytes text wrong outcome.LinkFault is = absurd is

-- ---- what is taken

pub err-taken : (form : Form) (limit : ℕ) (body : List ℕ) (e : BodyOutcome) → ((field : BadField) → IsLasting form body field → IsNeverLong form limit body) → IsJudged form body (Err e) → IsTaken form limit body (Err e)
err-taken form limit body (Bad field) never lasting = (lasting, never field lasting)
err-taken form limit body Memory never is = tt
err-taken form limit body (Good b) never is = absurd is
err-taken form limit body (ServerError b) never is = absurd is
err-taken form limit body TooLarge never is = absurd is
err-taken form limit body ReadFault never is = absurd is

-- and more behind it
pub err-on : (form : Form) (limit : ℕ) (body part : List ℕ) (e : BodyOutcome) → ((field : BadField) → IsLasting form body field → IsNeverLong form limit body) → IsJudged form body (Err e) → IsTaken form limit (body ++ part) (Err e)
err-on form limit body part (Bad field) never lasting = (lasts-on form body part field lasting, never-on form limit body part (never field lasting))
err-on form limit body part Memory never is = tt
err-on form limit body part (Good b) never is = absurd is
err-on form limit body part (ServerError b) never is = absurd is
err-on form limit body part TooLarge never is = absurd is
err-on form limit body part ReadFault never is = absurd is

-- want of memory says nothing
pub memory-taken : (form : Form) (limit : ℕ) (body : List ℕ) (e : BodyOutcome) → e ≡ Memory → IsTaken form limit body (Err e)
memory-taken form limit body e is = subst (λ (o : BodyOutcome). IsTaken form limit body (Err o)) (sym is) tt

pub going-memory : (form : Form) (bytes : List ℕ) (e : BodyOutcome) → IsGoing form bytes (Err e) → e ≡ Memory
going-memory form bytes Memory is = refl
going-memory form bytes (Bad field) is = absurd is
going-memory form bytes (Good b) is = absurd is
going-memory form bytes (ServerError b) is = absurd is
going-memory form bytes TooLarge is = absurd is
going-memory form bytes ReadFault is = absurd is

-- what is bad stays so, with more behind it
pub judged-on : (form : Form) (front rest : List ℕ) (e : BodyOutcome) → IsJudged form front (Err e) → IsJudged form (front ++ rest) (Err e)
judged-on form front rest (Bad field) lasting = lasts-on form front rest field lasting
judged-on form front rest Memory is = tt
judged-on form front rest (Good b) is = absurd is
judged-on form front rest (ServerError b) is = absurd is
judged-on form front rest TooLarge is = absurd is
judged-on form front rest ReadFault is = absurd is

-- ---- where it ends

pub complete-going : (n m : ℕ) (v : Verdict) → outcome_of n v ≡ outcome.Complete m → is_final v ≡ false
complete-going n m (good d ts) is = refl
complete-going n m (good_dds d) is = refl
complete-going n m (good_das a) is = refl
complete-going n m (server_error e) is = refl
complete-going n m (bad kind place) is = cc is

good-told : (n m : ℕ) (body : List ℕ) (v : Verdict) → outcome_of n v ≡ outcome.Complete m → told_of body v ≡ Good body
good-told n m body (good d ts) is = refl
good-told n m body (good_dds d) is = refl
good-told n m body (good_das a) is = refl
good-told n m body (server_error e) is = cc is
good-told n m body (bad kind place) is = cc is

pub said-good : (form : Form) (limit n : ℕ) (body text : List ℕ) (h : Held) (Whole First : List ℕ → Type 0) (Broken : List ℕ → BadField → Type 0) → IsHeld form limit body h → Whole body
    → IsFinished form body text (outcome.Complete n) → SaysOf Whole Broken First form limit (held_as_good h)
said-good form limit n body text (All kept) Whole First Broken (is, few) whole (v, verdict, told, shown) =
    subst (λ b. Whole b × IsToldOf form b (Good b) × (length b ≤ limit)) (sym is) (whole, (v, verdict, good-told (length body) n body v told), few)
said-good form limit n body text Longer Whole First Broken held whole finished = tt

pub said-error : (form : Form) (limit : ℕ) (body text : List ℕ) (code : ℤ) (message : List ℕ) (h : Held) (Whole First : List ℕ → Type 0) (Broken : List ℕ → BadField → Type 0) → IsHeld form limit body h → Whole body
    → IsFinished form body text (outcome.ServerError code message) → SaysOf Whole Broken First form limit (held_as_error h)
said-error form limit body text code message (All kept) Whole First Broken (is, few) whole (verdict, none) =
    subst (λ b. Whole b × IsToldOf form b (ServerError b) × (length b ≤ limit)) (sym is) (whole, (server_error (record { code = code; message = message }), verdict, refl), few)
said-error form limit body text code message Longer Whole First Broken held whole finished = tt

pub said-bad : (form : Form) (limit : ℕ) (body text : List ℕ) (field : BadField) (h : Held) (Whole First : List ℕ → Type 0) (Broken : List ℕ → BadField → Type 0) → IsHeld form limit body h → Whole body
    → IsFinished form body text (outcome.BadReply field) → SaysOf Whole Broken First form limit (Bad field)
said-bad form limit body text field h Whole First Broken held whole (verdict, shows) = inr (inl (body, whole, verdict, not-in form limit body h held))

pub said-broken : (form : Form) (limit : ℕ) (body text : List ℕ) (wrong : BadField) (o : Outcome) (h : Held) (Whole First : List ℕ → Type 0) (Broken : List ℕ → BadField → Type 0) → IsHeld form limit body h
    → Broken body wrong → IsBrokenOff form body text wrong o → SaysOf Whole Broken First form limit (ending_of o)
said-broken form limit body text wrong (outcome.BadReply field) h Whole First Broken held broken (front, verdict, first, shows) =
    inr (inr (body, wrong, front, broken, verdict, first, not-in form limit body h held))
said-broken form limit body text wrong outcome.Memory h Whole First Broken held broken is = tt
said-broken form limit body text wrong outcome.WriteFault h Whole First Broken held broken is = absurd is
said-broken form limit body text wrong (outcome.Complete n) h Whole First Broken held broken is = absurd is
said-broken form limit body text wrong (outcome.ServerError code message) h Whole First Broken held broken is = absurd is
said-broken form limit body text wrong outcome.ReadFault h Whole First Broken held broken is = absurd is
said-broken form limit body text wrong outcome.LinkFault h Whole First Broken held broken is = absurd is

pub said-taken : (form : Form) (limit : ℕ) (body : List ℕ) (e : BodyOutcome) (Whole First : List ℕ → Type 0) (Broken : List ℕ → BadField → Type 0) → First body → IsTaken form limit body (Err e) → SaysOf Whole Broken First form limit e
said-taken form limit body (Bad field) Whole First Broken first (lasting, never) = inl (body, first, lasting, never)
said-taken form limit body TooLarge Whole First Broken first long = (body, first, long)
said-taken form limit body Memory Whole First Broken first is = tt
said-taken form limit body (Good b) Whole First Broken first is = absurd is
said-taken form limit body (ServerError b) Whole First Broken first is = absurd is
said-taken form limit body ReadFault Whole First Broken first is = absurd is

-- ---- by the outcome of a reader that has all bytes

pub no-fault : (form : Form) (body text : List ℕ) (o : Outcome) → ¬ (o ≡ outcome.WriteFault) → IsFinished form body text o → HasNoFault o
no-fault form body text (outcome.Complete n) other is = tt
no-fault form body text (outcome.ServerError code message) other is = tt
no-fault form body text (outcome.BadReply field) other is = tt
no-fault form body text outcome.Memory other is = tt
no-fault form body text outcome.WriteFault other is = absurd (other refl)
no-fault form body text outcome.ReadFault other is = absurd is
no-fault form body text outcome.LinkFault other is = absurd is

twice : (b : Bool) → b ≡ not (not b)
twice true = refl
twice false = refl

pub going-told : (form : Form) (body text : List ℕ) (o : Outcome) → ¬ (o ≡ outcome.WriteFault) → IsFinished form body text o → IsGoing form body (going_of o)
going-told form body text (outcome.Complete n) other (v, is, told, shown) = (v, is, complete-going (length body) n v told)
going-told form body text (outcome.ServerError code message) other (is, none) = (server_error (record { code = code; message = message }), is, refl)
going-told form body text (outcome.BadReply field) other (is, shows) = (bad field.kind field.place, is, twice (is_fault field.kind))
going-told form body text outcome.Memory other is = tt
going-told form body text outcome.WriteFault other is = absurd (other refl)
going-told form body text outcome.ReadFault other is = absurd is
going-told form body text outcome.LinkFault other is = absurd is

-- it is no fault of the source
pub ending-fault : (o : Outcome) → ending_of o ≡ ReadFault → ⊥
ending-fault (outcome.BadReply field) is = cc
ending-fault (outcome.Complete n) is = cc
ending-fault (outcome.ServerError code message) is = cc
ending-fault outcome.ReadFault is = cc
ending-fault outcome.WriteFault is = cc
ending-fault outcome.LinkFault is = cc
ending-fault outcome.Memory is = cc

pub whole-fault : (h : Held) (o : Outcome) → whole_of h o ≡ ReadFault → ⊥
whole-fault (All kept) (outcome.Complete n) is = cc
whole-fault Longer (outcome.Complete n) is = cc
whole-fault (All kept) (outcome.ServerError code message) is = cc
whole-fault Longer (outcome.ServerError code message) is = cc
whole-fault h (outcome.BadReply field) is = cc
whole-fault h outcome.ReadFault is = cc
whole-fault h outcome.WriteFault is = cc
whole-fault h outcome.LinkFault is = cc
whole-fault h outcome.Memory is = cc

pub whole-told : (form : Form) (limit : ℕ) (body text : List ℕ) (h : Held) (o : Outcome) → IsHeld form limit body h → ¬ (o ≡ outcome.WriteFault) → IsFinished form body text o → SaysWhole form limit body (whole_of h o)
whole-told form limit body text h (outcome.Complete n) held other is = said-good form limit n body text h (λ b. b ≡ body) (λ b. ⊥) (λ b w. ⊥) held refl is
whole-told form limit body text h (outcome.ServerError code message) held other is = said-error form limit body text code message h (λ b. b ≡ body) (λ b. ⊥) (λ b w. ⊥) held refl is
whole-told form limit body text h (outcome.BadReply field) held other is = said-bad form limit body text field h (λ b. b ≡ body) (λ b. ⊥) (λ b w. ⊥) held refl is
whole-told form limit body text h outcome.Memory held other is = tt
whole-told form limit body text h outcome.WriteFault held other is = absurd (other refl)
whole-told form limit body text h outcome.ReadFault held other is = absurd is
whole-told form limit body text h outcome.LinkFault held other is = absurd is

pub broken-told : (form : Form) (limit : ℕ) (body text : List ℕ) (wrong : BadField) (o : Outcome) (h : Held) → IsHeld form limit body h → IsBrokenOff form body text wrong o → SaysBroken form limit body wrong (ending_of o)
broken-told form limit body text wrong o h held is = said-broken form limit body text wrong o h (λ b. ⊥) (λ b. ⊥) (λ b w. (b ≡ body) × (w ≡ wrong)) held (refl, refl) is

-- ---- from the bytes behind a head to those of a reply

pub says-so : (form : Form) (limit : ℕ) (o : BodyOutcome) (W W2 F F2 : List ℕ → Type 0) (B B2 : List ℕ → BadField → Type 0) → ((b : List ℕ) → W b → W2 b) → ((b : List ℕ) (w : BadField) → B b w → B2 b w)
    → ((b : List ℕ) → F b → F2 b) → SaysOf W B F form limit o → SaysOf W2 B2 F2 form limit o
says-so form limit (Good body) W W2 F F2 B B2 w b f (whole, told, few) = (w body whole, told, few)
says-so form limit (ServerError body) W W2 F F2 B B2 w b f (whole, told, few) = (w body whole, told, few)
says-so form limit (Bad field) W W2 F F2 B B2 w b f (inl (body, first, lasting, never)) = inl (body, f body first, lasting, never)
says-so form limit (Bad field) W W2 F F2 B B2 w b f (inr (inl (body, whole, verdict, not_long))) = inr (inl (body, w body whole, verdict, not_long))
says-so form limit (Bad field) W W2 F F2 B B2 w b f (inr (inr (body, wrong, front, broken, verdict, is, not_long))) = inr (inr (body, wrong, front, b body wrong broken, verdict, is, not_long))
says-so form limit TooLarge W W2 F F2 B B2 w b f (body, first, long) = (body, f body first, long)
says-so form limit ReadFault W W2 F F2 B B2 w b f is = tt
says-so form limit Memory W W2 F F2 B B2 w b f is = tt
