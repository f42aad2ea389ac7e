-- The values of the file, one more at a time.
use Rattle.std.proofs.Common.{◌≡◌, ℕ, zero, suc, ◌+◌, ◌*◌, ◌%◌, ◌^◌, ◌<◌, ◌≤◌, [], ◌∷◌, ◌++◌, length, refl, ap, sym, ◌∙◌, append-nil, zero-add, add-one, add-zero, arith, true, false, ltb, length-append}
use Rattle.std.specs.List.{flat_map, range_with_len}
use Rattle.std.proofs.lemmas.Grind.{flat_map-append}
use Rattle.std.proofs.Math.Nat.{mul-add-mod_self_left, mod-eq_of_lt}
use Rattle.std.proofs.lemmas.Bool.{lt-ltb}
use Rattle.std.proofs.lemmas.Bool.Decides.{nat_tests}
use Rattle.soak.specs.File.{bytes_at, state, value_bytes, values}

range-more : (a n : ℕ) → range_with_len a (suc n) ≡ range_with_len a n ++ (a + n) ∷ []
range-more a zero = ap (λ x. x ∷ []) (sym (add-zero a))
range-more a (suc n) = ap (λ xs. a ∷ xs) (range-more (a + 1) n ∙ ap (λ x. range_with_len (a + 1) n ++ x ∷ []) (omega arith))

pub values-more : (start k : ℕ) → values start (k + 1) ≡ values start k ++ value_bytes start k
unfolding values
values-more start k =
    ap (λ n. flat_map (value_bytes start) (range_with_len 0 n)) (add-one k)
    ∙ ap (flat_map (value_bytes start)) (range-more 0 k ∙ ap (λ x. range_with_len 0 k ++ x ∷ []) (zero-add k))
    ∙ flat_map-append (value_bytes start) (range_with_len 0 k) (k ∷ [])
    ∙ ap (λ xs. flat_map (value_bytes start) (range_with_len 0 k) ++ xs) (append-nil (value_bytes start k))

pub values-none : (start : ℕ) → values start 0 ≡ []
unfolding values
values-none start = refl

pub state-none : (start : ℕ) → state start 0 ≡ start
unfolding state
state-none start = refl

pub state-more : (start k : ℕ) → state start (k + 1) ≡ (6364136223846793005 * state start k + 1442695040888963407) % 2 ^ 64
unfolding state
state-more start k = ap (state start) (add-one k)

-- ---- lengths

bytes_at-short : (j x : ℕ) → j < 1024 → length (bytes_at j x) ≡ 2
bytes_at-short j x lt = let e : ltb j 1024 ≡ true = lt-ltb j 1024 lt in rw e refl

bytes_at-int : (j x : ℕ) → 1024 ≤ j → length (bytes_at j x) ≡ 4
bytes_at-int j x ge = let e : ltb j 1024 ≡ false = grind (arith, nat_tests) in rw e refl

in_record : (n j : ℕ) → j < 2048 → (2048 * n + j) % 2048 ≡ j
in_record n j lt = mul-add-mod_self_left 2048 n j ∙ mod-eq_of_lt lt

length-values_short : (start n j : ℕ) → j ≤ 1024 → length (values start (2048 * n + j)) ≡ length (values start (2048 * n)) + 2 * j
length-values_short start n zero le = ap (λ k. length (values start k)) (add-zero (2048 * n)) ∙ sym (add-zero (length (values start (2048 * n))))
length-values_short start n (suc j) le =
    let lt : j < 1024 = omega arith in
    let own : length (value_bytes start (2048 * n + j)) ≡ 2 =
    ap (λ i. length (bytes_at i (state start (2048 * n + j + 1)))) (in_record n j (omega arith)) ∙ bytes_at-short j _ lt in
    let all : length (values start (2048 * n + j + 1)) ≡ length (values start (2048 * n + j)) + 2 =
    ap length (values-more start (2048 * n + j)) ∙ length-append (values start (2048 * n + j)) (value_bytes start (2048 * n + j)) ∙ ap (λ k. length (values start (2048 * n + j)) + k) own in
    let is : 2048 * n + suc j ≡ 2048 * n + j + 1 = omega arith in
    ap (λ k. length (values start k)) is ∙ all ∙ omega (arith, length-values_short start n j (omega arith))

length-values_int : (start n j : ℕ) → j ≤ 1024 → length (values start (2048 * n + 1024 + j)) ≡ length (values start (2048 * n)) + 2048 + 4 * j
length-values_int start n zero le = ap (λ k. length (values start k)) (add-zero (2048 * n + 1024)) ∙ length-values_short start n 1024 (omega arith) ∙ omega arith
length-values_int start n (suc j) le =
    let own : length (value_bytes start (2048 * n + 1024 + j)) ≡ 4 =
    ap (λ i. length (bytes_at (i % 2048) (state start (2048 * n + 1024 + j + 1)))) (same n j)
    ∙ ap (λ i. length (bytes_at i (state start (2048 * n + 1024 + j + 1)))) (in_record n (1024 + j) (omega arith)) ∙ bytes_at-int (1024 + j) _ (omega arith) in
    let all : length (values start (2048 * n + 1024 + j + 1)) ≡ length (values start (2048 * n + 1024 + j)) + 4 =
    ap length (values-more start (2048 * n + 1024 + j)) ∙ length-append (values start (2048 * n + 1024 + j)) (value_bytes start (2048 * n + 1024 + j)) ∙ ap (λ k. length (values start (2048 * n + 1024 + j)) + k) own in
    let is : 2048 * n + 1024 + suc j ≡ 2048 * n + 1024 + j + 1 = omega arith in
    ap (λ k. length (values start k)) is ∙ all ∙ omega (arith, length-values_int start n j (omega arith))
  where
    same : (n j : ℕ) → 2048 * n + 1024 + j ≡ 2048 * n + (1024 + j)
    same n j = omega arith

pub length-values : (start n : ℕ) → length (values start (2048 * n)) ≡ 6144 * n
length-values start zero = ap length (values-none start)
length-values start (suc n) =
    let is : 2048 * suc n ≡ 2048 * n + 1024 + 1024 = omega arith in
    ap (λ k. length (values start k)) is ∙ length-values_int start n 1024 (omega arith) ∙ omega (arith, length-values start n)
