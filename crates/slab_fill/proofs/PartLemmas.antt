-- A part of a list is written over.
use Rattle.std.proofs.Common.{◌≡◌, ℕ, ◌+◌, ◌-◌, ◌*◌, ◌<◌, ◌≤◌, ◌⊎◌, inl, inr, List, ◌++◌, length, get_or, take, drop, sym, ap, ◌∙◌, arith, length-drop}
use Rattle.std.proofs.Math.Nat.{add-mul}
use Rattle.std.proofs.lemmas.Bool.{cases_lt}
use Rattle.std.proofs.lemmas.List.{get_or-take, get_or_append_left, get_or-append_right, length-take-le}

-- how long a part of n elements is
pub part-length : (w done n : ℕ) (part : List ℕ) → (done + n) * w ≤ length part → length (take ((done + n) * w - done * w) (drop (done * w) part)) ≡ n * w
part-length w done n part fits =
    let split : (done + n) * w ≡ done * w + n * w = add-mul done n w in
    let long : (done + n) * w - done * w ≡ n * w = omega arith in
    let rest : length (drop (done * w) part) ≡ length part - done * w = length-drop (done * w) part in
    length-take-le ((done + n) * w - done * w) (drop (done * w) part) (omega arith) ∙ long

-- what holds of each number before the part and of each number of the part holds up to the part's end
pub filled-more : (new old sub : List ℕ) (a n : ℕ) (f : ℕ → ℕ) → take n new ≡ take a old ++ sub → a ≤ length old → n ≡ a + length sub →
    ((k : ℕ) → k < a → get_or old k 0 ≡ f k) → ((k : ℕ) → k < length sub → get_or sub k 0 ≡ f (a + k)) → (k : ℕ) → k < n → get_or new k 0 ≡ f k
filled-more new old sub a n f is inside end before here k lt = sym (get_or-take n new k 0 lt) ∙ ap (λ xs. get_or xs k 0) is ∙ go (cases_lt k a)
  where
    long : length (take a old) ≡ a
    long = length-take-le a old inside

    go : (k < a) ⊎ (a ≤ k) → get_or (take a old ++ sub) k 0 ≡ f k
    go (inl below) = get_or_append_left (take a old) sub 0 k (omega (arith, long)) ∙ get_or-take a old k 0 below ∙ before k below
    go (inr above) =
        let back : a + (k - a) ≡ k = omega arith in
        get_or-append_right (take a old) sub a k 0 long above ∙ here (k - a) (omega arith) ∙ ap f back
