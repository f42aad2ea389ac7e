-- How often a shelf failed.
use Rattle.std.proofs.Common.{◌≡◌, ℕ, ◌+◌, ◌≤◌, Bool, false, true, ◌||◌, ◌∙◌, arith}
use Rattle.plain_lemmas.proofs.Truths.{first_false, second_false}
use Rattle.dap_outside.specs.Causes.{Rose}
use Rattle.dap_server.specs.Connections.{FailedBy}

-- it did not
pub calm : (n : ℕ) (maybe : Bool) (f f1 : ℕ) → n ≡ 0 → f1 ≡ f → FailedBy n maybe f f1
calm n maybe f f1 none same = (omega (arith, none, same), λ _ _. same)

-- once
pub failed-once : (n : ℕ) (maybe : Bool) (f f1 : ℕ) → n ≡ 1 → Rose f f1 → FailedBy n maybe f f1
failed-once n maybe f f1 one rose = (omega (arith, one, rose), λ none _. absurd (omega (arith, one, none)))

-- it is not said
pub failed-open : (n : ℕ) (maybe : Bool) (f f1 : ℕ) → n ≡ 0 → maybe ≡ true → f ≤ f1 → FailedBy n maybe f f1
failed-open n maybe f f1 none unsaid later = (omega (arith, none, later), λ _ said. cc (unsaid, said))

-- the same number
pub failed-as : (m n : ℕ) (maybe : Bool) (f f1 : ℕ) → m ≡ n → FailedBy m maybe f f1 → FailedBy n maybe f f1
failed-as m n maybe f f1 same (rose, stays) = (omega (arith, same, rose), λ none. stays (omega (arith, same, none)))

-- one time behind another
pub failed-more : (m n : ℕ) (u v : Bool) (a b c : ℕ) → FailedBy m u a b → FailedBy n v b c → FailedBy (m + n) (u || v) a c
failed-more m n u v a b c (rose, stays) (rose', stays') =
    (omega (arith, rose, rose'), λ none said. stays' (omega (arith, none)) (second_false u v said) ∙ stays (omega (arith, none)) (first_false u v said))

-- the answer to the last request
pub failed-said : (m n : ℕ) (maybe : Bool) (f f1 : ℕ) → m ≡ n → FailedBy m maybe f f1 → FailedBy n (maybe || false) f f1
failed-said m n maybe f f1 same (rose, stays) = (omega (arith, same, rose), λ none said. stays (omega (arith, same, none)) (first_false maybe false said))
