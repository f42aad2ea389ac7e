-- [start:stride:stop] picks each index from start to stop whose distance from start the stride divides.
use Rattle.std.proofs.Common.{◌≡◌, ℕ, zero, suc, ◌+◌, ◌-◌, ◌*◌, ◌/◌, ◌%◌, ◌<◌, ◌≤◌, ◌⊎◌, inl, inr, ⊎_elim, eqb, Bool, true, false, cond, [], ◌∷◌, ◌++◌, length, map, filter, get_or, refl, sym, ap, ◌∙◌, append-nil, arith}
use Rattle.std.specs.List.{range_with_len}
use Rattle.std.proofs.lemmas.Bool.{cases_lt}
use Rattle.std.proofs.lemmas.Bool.Decides.{nat_tests}
use Rattle.std.proofs.lemmas.List.{map-id}
use Rattle.std.proofs.lemmas.List.FromFn.{filter_of_map_range_with_len_more, get_or-map-range_with_len, length-map-range_with_len, map-range_with_len_more}
use Rattle.std.proofs.lemmas.Nat.{div-add-mod', div-mul-add}
use Rattle.std.proofs.Math.Nat.{mod-lt, mul-le-mul_right, div-mul-le_self}
use Rattle.plain_lemmas.proofs.Numbers.{one_more_times}
use Rattle.dap_model.specs.Cutting.{IsWithin, bracketed, indexes}

-- one step further either stays below the next multiple, or is it
abbrev Further : ℕ → ℕ → Type 0
Further m s = (((m + 1) / s ≡ m / s) × (1 ≤ (m + 1) % s)) ⊎ (((m + 1) / s ≡ m / s + 1) × ((m + 1) % s ≡ 0) × (m + 1 ≡ (m / s + 1) * s))

further : (m s : ℕ) → 1 ≤ s → Further m s
further m s up = ⊎_elim (λ lt. inl (stays lt)) (λ le. inr (next le)) (cases_lt (m % s + 1) s)
  where
    below : m % s < s
    below = mod-lt m (omega (arith, up))

    stays : m % s + 1 < s → ((m + 1) / s ≡ m / s) × (1 ≤ (m + 1) % s)
    stays lt =
        let split : m + 1 ≡ m / s * s + (m % s + 1) = omega (arith, div-add-mod' m s) in
        let same : (m + 1) / s ≡ m / s = ap (λ n. n / s) split ∙ div-mul-add (m / s) s (m % s + 1) lt in
        (same, omega (arith, div-add-mod' (m + 1) s, ap (λ q. q * s) same, split))

    next : s ≤ m % s + 1 → ((m + 1) / s ≡ m / s + 1) × ((m + 1) % s ≡ 0) × (m + 1 ≡ (m / s + 1) * s)
    next le =
        let split : m + 1 ≡ (m / s + 1) * s = omega (arith, div-add-mod' m s, below, one_more_times (m / s) s) in
        let same : (m + 1) / s ≡ m / s + 1 = ap (λ n. n / s) (omega (arith, split)) ∙ div-mul-add (m / s + 1) s 0 (omega (arith, up)) in
        (same, omega (arith, div-add-mod' (m + 1) s, ap (λ q. q * s) same, split), split)

-- the multiples of s up to m, each behind a
spaced : (a s m : ℕ) → 1 ≤ s → filter (λ i. eqb ((i - a) % s) 0) (map (λ i. i) (range_with_len a (m + 1))) ≡ map (λ k. a + k * s) (range_with_len 0 (m / s + 1))
spaced a s zero up =
    let none : (a - a) % s ≡ 0 = omega (arith, div-add-mod' (a - a) s) in
    let first : 0 / s ≡ 0 = ap (λ n. n / s) (omega arith) ∙ div-mul-add 0 s 0 (omega (arith, up)) in
    rw (none, first) (ap (λ n. n ∷ []) (omega arith))
spaced a s (suc m) up = by (further m s up) (spaced a s m up)
  where
    more : filter (λ i. eqb ((i - a) % s) 0) (map (λ i. i) (range_with_len a (suc m + 1)))
        ≡ filter (λ i. eqb ((i - a) % s) 0) (map (λ i. i) (range_with_len a (m + 1))) ++ cond (eqb ((a + (m + 1) - a) % s) 0) ((a + (m + 1)) ∷ []) []
    more = ap (λ n. filter (λ i. eqb ((i - a) % s) 0) (map (λ i. i) (range_with_len a n))) (omega arith) ∙ filter_of_map_range_with_len_more (λ i. eqb ((i - a) % s) 0) (λ i. i) a (m + 1) (a + (m + 1)) refl

    distance : a + (m + 1) - a ≡ m + 1
    distance = omega arith

    after : suc m ≡ m + 1
    after = omega arith

    by : Further m s → filter (λ i. eqb ((i - a) % s) 0) (map (λ i. i) (range_with_len a (m + 1))) ≡ map (λ k. a + k * s) (range_with_len 0 (m / s + 1))
        → filter (λ i. eqb ((i - a) % s) 0) (map (λ i. i) (range_with_len a (suc m + 1))) ≡ map (λ k. a + k * s) (range_with_len 0 (suc m / s + 1))
    by (inl (same, some)) before =
        let not_zero : eqb ((a + (m + 1) - a) % s) 0 ≡ false = ap (λ n. eqb (n % s) 0) distance ∙ grind (arith, nat_tests, some) in
        more ∙ ap (λ l. l ++ cond (eqb ((a + (m + 1) - a) % s) 0) ((a + (m + 1)) ∷ []) []) before
        ∙ ap (λ b. map (λ k. a + k * s) (range_with_len 0 (m / s + 1)) ++ cond b ((a + (m + 1)) ∷ []) []) not_zero
        ∙ append-nil (map (λ k. a + k * s) (range_with_len 0 (m / s + 1)))
        ∙ ap (λ n. map (λ k. a + k * s) (range_with_len 0 (n + 1))) (sym same ∙ ap (λ n. n / s) (sym after))
    by (inr (next, none, is)) before =
        let zero_is : eqb ((a + (m + 1) - a) % s) 0 ≡ true = ap (λ n. eqb (n % s) 0) distance ∙ ap (λ n. eqb n 0) none in
        more ∙ ap (λ l. l ++ cond (eqb ((a + (m + 1) - a) % s) 0) ((a + (m + 1)) ∷ []) []) before
        ∙ ap (λ b. map (λ k. a + k * s) (range_with_len 0 (m / s + 1)) ++ cond b ((a + (m + 1)) ∷ []) []) zero_is
        ∙ ap (λ n. map (λ k. a + k * s) (range_with_len 0 (m / s + 1)) ++ ((a + n) ∷ [])) is
        ∙ sym (map-range_with_len_more (λ k. a + k * s) 0 (m / s + 1) (m / s + 1) (omega arith))
        ∙ ap (λ n. map (λ k. a + k * s) (range_with_len 0 (n + 1))) (sym next ∙ ap (λ n. n / s) (sym after))

-- one index is picked whatever the stride
any_stride : (a s n : ℕ) → map (λ k. a + k * cond (eqb n 1) 1 s) (range_with_len 0 n) ≡ map (λ k. a + k * s) (range_with_len 0 n)
any_stride a s zero = refl
any_stride a s (suc zero) = ap (λ n. n ∷ []) (omega arith)
any_stride a s (suc (suc n)) =
    let many : eqb (suc (suc n)) 1 ≡ false = grind (arith, nat_tests) in
    ap (λ b. map (λ k. a + k * cond b 1 s) (range_with_len 0 (suc (suc n)))) many

pub brackets_pick : (start stride stop : ℕ) → 1 ≤ stride → start ≤ stop → indexes (bracketed start stride stop) ≡ filter (λ i. eqb ((i - start) % stride) 0) (range_with_len start (stop - start + 1))
brackets_pick start stride stop up le =
    any_stride start stride ((stop - start) / stride + 1)
    ∙ sym (spaced start stride (stop - start) up)
    ∙ ap (filter (λ i. eqb ((i - start) % stride) 0)) (map-id (range_with_len start (stop - start + 1)))

up_too : (n s : ℕ) → 1 ≤ s → 1 ≤ cond (eqb n 1) 1 s
up_too n s up = by (eqb n 1)
  where
    by : (b : Bool) → 1 ≤ cond b 1 s
    by true = omega arith
    by false = up

pub brackets_are_within : (start stride stop n : ℕ) → 1 ≤ stride → start ≤ stop → stop < n → IsWithin (bracketed start stride stop) n
brackets_are_within start stride stop n up le lt = (
  up_too ((stop - start) / stride + 1) stride up,
  λ k d inside. each k d inside,
)
  where
    q : ℕ
    q = (stop - start) / stride

    each : (k d : ℕ) → k < length (indexes (bracketed start stride stop)) → get_or (indexes (bracketed start stride stop)) k d < n
    each k d inside =
        let long : length (indexes (bracketed start stride stop)) ≡ q + 1 = length-map-range_with_len (λ k. start + k * cond (eqb (q + 1) 1) 1 stride) 0 (q + 1) in
        let few : k ≤ q = omega (arith, long) in
        let at : get_or (indexes (bracketed start stride stop)) k d ≡ start + k * stride =
        ap (λ l. get_or l k d) (any_stride start stride (q + 1)) ∙ get_or-map-range_with_len (λ k. start + k * stride) 0 (q + 1) k k d (omega (arith, few)) (omega arith) in
        omega (arith, at, mul-le-mul_right stride few, div-mul-le_self (stop - start) stride)
