-- Where rows begin, when axes are added.
use Rattle.std.proofs.Common.{◌≡◌, ℕ, ◌+◌, ◌-◌, ◌*◌, ◌/◌, ◌%◌, ◌<◌, ◌≤◌, List, [], ◌∷◌, ◌++◌, refl, sym, ap, ◌∙◌, subst, arith, zero-add, add-zero, max}
use Rattle.std.proofs.Math.Nat.{mul_assoc, div-div-eq-div-mul, mul-add-div_right, mul-add-mod_self_right, mod-lt, mod-eq_of_lt, mod-mod, div-eq_of_lt, div-lt_iff_lt-mul, div-add-mod', mul-pos, div-one, one-mul, zero-mul, suc-mul, max-eq_left, le_refl, le_of_eq}
use Rattle.hyperslab_plan.specs.Axes.{rows_of, row_at, Counted}
use Rattle.hyperslab_plan.specs.declared.shape.Axis.{Axis}
use Prim.Native.Nat.{zero, suc}

pub head_counted : (a : Axis) (xs : List Axis) → Counted (a ∷ xs) → 0 < a.count
head_counted a xs h = h 0 a (omega arith)

pub rest_counted : (a : Axis) (xs : List Axis) → Counted (a ∷ xs) → Counted xs
rest_counted a xs h i d lt = h (suc i) d (omega arith)

pub rows_pos : (xs : List Axis) → Counted xs → 0 < rows_of xs
rows_pos [] h = omega arith
rows_pos (a ∷ xs) h = mul-pos (head_counted a xs h) (rows_pos xs (rest_counted a xs h))

-- row_at forgets whole rounds
pub row_at-rounds : (xs : List Axis) (k r : ℕ) → Counted xs → row_at xs (k * rows_of xs + r) ≡ row_at xs r
row_at-rounds [] k r h = refl
row_at-rounds (a ∷ xs) k r h =
    let pos : 0 < a.count = head_counted a xs h in
    let e : k * (a.count * rows_of xs) + r ≡ k * rows_of xs * a.count + r = omega arith in
    let m : (k * (a.count * rows_of xs) + r) % a.count ≡ r % a.count = ap (λ x. x % a.count) e ∙ mul-add-mod_self_right (k * rows_of xs) a.count r in
    let d : (k * (a.count * rows_of xs) + r) / a.count ≡ k * rows_of xs + r / a.count = ap (λ x. x / a.count) e ∙ mul-add-div_right pos (k * rows_of xs) r in
    let ih : row_at xs (k * rows_of xs + r / a.count) ≡ row_at xs (r / a.count) = row_at-rounds xs k (r / a.count) (rest_counted a xs h) in
    ap (λ x. x * a.jump + row_at xs ((k * (a.count * rows_of xs) + r) / a.count)) m ∙ ap (λ x. r % a.count * a.jump + row_at xs x) d ∙ ap (λ x. r % a.count * a.jump + x) ih

pub rows-push : (xs : List Axis) (b : Axis) → rows_of (xs ++ b ∷ []) ≡ b.count * rows_of xs
rows-push [] b = refl
rows-push (a ∷ xs) b = ap (λ x. a.count * x) (rows-push xs b) ∙ omega arith

pub row_at-push : (xs : List Axis) (b : Axis) (q : ℕ) → row_at (xs ++ b ∷ []) q ≡ row_at xs q + q / rows_of xs % b.count * b.jump
row_at-push [] b q = rw div-one (omega arith)
row_at-push (a ∷ xs) b q =
    let ih : row_at (xs ++ b ∷ []) (q / a.count) ≡ row_at xs (q / a.count) + q / a.count / rows_of xs % b.count * b.jump = row_at-push xs b (q / a.count) in
    let d : q / a.count / rows_of xs ≡ q / (a.count * rows_of xs) = div-div-eq-div-mul q a.count (rows_of xs) in
    ap (λ x. q % a.count * a.jump + x) ih ∙ ap (λ x. q % a.count * a.jump + (row_at xs (q / a.count) + x % b.count * b.jump)) d ∙ omega arith

-- an axis that repeats all rows
pub places-push : (xs : List Axis) (b : Axis) (n j p : ℕ) → 0 < n → Counted xs → p < b.count * (rows_of xs * n) →
    row_at (xs ++ b ∷ []) (p / n) + p % n * j ≡ p / (rows_of xs * n) * b.jump + (row_at xs (p % (rows_of xs * n) / n) + p % (rows_of xs * n) % n * j)
places-push xs b n j p pos counted below =
    let e_pos : 0 < rows_of xs * n = mul-pos (rows_pos xs counted) pos in
    let whole : p / (rows_of xs * n) * (rows_of xs * n) + p % (rows_of xs * n) ≡ p = div-add-mod' p (rows_of xs * n) in
    split xs b n j p (p / (rows_of xs * n)) (p % (rows_of xs * n)) pos counted
    ((div-lt_iff_lt-mul e_pos).1 below) whole (mod-lt p e_pos)
  where
    split : (xs : List Axis) (b : Axis) (n j p k r : ℕ) → 0 < n → Counted xs → k < b.count → k * (rows_of xs * n) + r ≡ p → r < rows_of xs * n →
        row_at (xs ++ b ∷ []) (p / n) + p % n * j ≡ k * b.jump + (row_at xs (r / n) + r % n * j)
    split xs b n j p k r pos counted k_lt whole r_lt =
        let e : p ≡ k * rows_of xs * n + r = sym whole ∙ omega arith in
        let m : p % n ≡ r % n = ap (λ x. x % n) e ∙ mul-add-mod_self_right (k * rows_of xs) n r in
        let d : p / n ≡ k * rows_of xs + r / n = ap (λ x. x / n) e ∙ mul-add-div_right pos (k * rows_of xs) r in
        let rows_lt : r / n < rows_of xs = (div-lt_iff_lt-mul pos).1 r_lt in
        let r_pos : 0 < rows_of xs = rows_pos xs counted in
        let dd : (k * rows_of xs + r / n) / rows_of xs ≡ k = mul-add-div_right r_pos k (r / n) ∙ ap (λ x. k + x) (div-eq_of_lt rows_lt) ∙ add-zero k in
        let mm : k % b.count ≡ k = mod-eq_of_lt k_lt in
        let pushed : row_at (xs ++ b ∷ []) (p / n) ≡ row_at xs (p / n) + p / n / rows_of xs % b.count * b.jump = row_at-push xs b (p / n) in
        let rounds : row_at xs (k * rows_of xs + r / n) ≡ row_at xs (r / n) = row_at-rounds xs k (r / n) counted in
        let a1 : row_at xs (p / n) ≡ row_at xs (r / n) = ap (λ x. row_at xs x) d ∙ rounds in
        let a2 : p / n / rows_of xs % b.count ≡ k = ap (λ x. x / rows_of xs % b.count) d ∙ ap (λ x. x % b.count) dd ∙ mm in
        ap (λ x. x + p % n * j) pushed ∙ ap (λ x. x + p / n / rows_of xs % b.count * b.jump + p % n * j) a1 ∙ ap (λ x. row_at xs (r / n) + x * b.jump + p % n * j) a2 ∙ ap (λ x. row_at xs (r / n) + k * b.jump + x * j) m ∙ omega arith

-- what is there once stays
pub once : (f : ℕ → ℕ) (e c j p : ℕ) → c ≡ 1 → p < c * e → f p ≡ p / e * j + f (p % e)
once f e c j p is_one below =
    let lt : p < e = subst (λ x. p < x) (ap (λ x. x * e) is_one ∙ one-mul e) below in
    let d : p / e ≡ 0 = div-eq_of_lt lt in
    let m : p % e ≡ p = mod-eq_of_lt lt in
    ap f (sym m) ∙ sym (zero-add (f (p % e))) ∙ ap (λ x. x + f (p % e)) (sym (ap (λ x. x * j) d ∙ zero-mul j))

-- a row that repeats end to end is one row
pub places-solid : (xs : List Axis) (n c size j jump p : ℕ) → 0 < n → xs ≡ [] → j ≡ size → jump ≡ n * size → p < c * (rows_of xs * n) →
    row_at xs (p / (n * c)) + p % (n * c) * j ≡ p / (rows_of xs * n) * jump + (row_at xs (p % (rows_of xs * n) / n) + p % (rows_of xs * n) % n * j)
places-solid xs n c size j jump p pos none ends far below =
    subst (λ (zs : List Axis). p < c * (rows_of zs * n) → row_at zs (p / (n * c)) + p % (n * c) * j ≡ p / (rows_of zs * n) * jump + (row_at zs (p % (rows_of zs * n) / n) + p % (rows_of zs * n) % n * j)) (sym none)
    (λ lt. alone n c size j jump p pos ends far lt) below
  where
    spread : (k n r size : ℕ) → (k * n + r) * size ≡ k * (n * size) + r * size
    spread k n r size = omega arith

    alone : (n c size j jump p : ℕ) → 0 < n → j ≡ size → jump ≡ n * size → p < c * (1 * n) →
        0 + p % (n * c) * j ≡ p / (1 * n) * jump + (0 + p % (1 * n) % n * j)
    alone n c size j jump p pos ends far lt =
        let nn : 1 * n ≡ n = one-mul n in
        let m : p % (n * c) ≡ p = mod-eq_of_lt (omega arith) in
        let mm : p % n % n ≡ p % n = mod-mod p n in
        let whole : p / n * n + p % n ≡ p = div-add-mod' p n in
        let far_j : jump ≡ n * j = far ∙ ap (λ x. n * x) (sym ends) in
        let left : 0 + p % (n * c) * j ≡ (p / n * n + p % n) * j = zero-add _ ∙ ap (λ x. x * j) (m ∙ sym whole) in
        let right : p / n * (n * j) + (0 + p % n % n * j) ≡ p / n * (n * j) + p % n * j = ap (λ x. p / n * (n * j) + x) (zero-add _ ∙ ap (λ x. x * j) mm) in
        left ∙ spread (p / n) n (p % n) j ∙ sym right ∙ ap (λ x. p / n * x + (0 + p % n % n * j)) (sym far_j) ∙ ap (λ x. p / x * jump + (0 + p % x % n * j)) (sym nn)

pub cost-solid : (xs : List Axis) (n c size j : ℕ) → 0 < n → 0 < c → xs ≡ [] → j ≡ size → rows_of xs * ((n * c - 1) * max j size + size) ≤ c * (rows_of xs * ((n - 1) * max j size + size))
cost-solid xs n c size j pos some none ends =
    subst (λ (zs : List Axis). rows_of zs * ((n * c - 1) * max j size + size) ≤ c * (rows_of zs * ((n - 1) * max j size + size))) (sym none)
    (subst (λ x. 1 * ((n * c - 1) * max x size + size) ≤ c * (1 * ((n - 1) * max x size + size))) (sym ends) (alone n c size pos some))
  where
    sub-one : (k : ℕ) → suc k - 1 ≡ k
    sub-one k = omega arith

    turn : (c n s : ℕ) → n * c * s ≡ c * (n * s)
    turn c n s = omega arith

    more : (k s : ℕ) → 0 < k → (k - 1) * s + s ≡ k * s
    more zero s h = absurd (omega arith)
    more (suc k) s h = ap (λ x. x * s + s) (sub-one k) ∙ sym (suc-mul k s)

    same : (k s : ℕ) → 0 < k → 1 * ((k - 1) * max s s + s) ≡ k * s
    same k s h = one-mul _ ∙ ap (λ x. (k - 1) * x + s) (max-eq_left (le_refl s)) ∙ more k s h

    alone : (n c s : ℕ) → 0 < n → 0 < c → 1 * ((n * c - 1) * max s s + s) ≤ c * (1 * ((n - 1) * max s s + s))
    alone n c s pos some = le_of_eq (same (n * c) s (mul-pos pos some) ∙ turn c n s ∙ ap (λ x. c * x) (sym (same n s pos)))

pub elements-push : (xs ys : List Axis) (j c n : ℕ) → ys ≡ xs ++ record { jump = j; count = c } ∷ [] → rows_of ys * n ≡ c * (rows_of xs * n)
elements-push xs ys j c n e = ap (λ (zs : List Axis). rows_of zs * n) e ∙ ap (λ x. x * n) (rows-push xs (record { jump = j; count = c })) ∙ mul_assoc c (rows_of xs) n

pub cost-push : (xs ys : List Axis) (j c x : ℕ) → ys ≡ xs ++ record { jump = j; count = c } ∷ [] → rows_of ys * x ≤ c * (rows_of xs * x)
cost-push xs ys j c x e = le_of_eq (elements-push xs ys j c x e)

pub places-pushed : (xs ys : List Axis) (jump c n j p : ℕ) → ys ≡ xs ++ record { jump = jump; count = c } ∷ [] → 0 < n → Counted xs → p < c * (rows_of xs * n) →
    row_at ys (p / n) + p % n * j ≡ p / (rows_of xs * n) * jump + (row_at xs (p % (rows_of xs * n) / n) + p % (rows_of xs * n) % n * j)
places-pushed xs ys jump c n j p e pos counted below = ap (λ (zs : List Axis). row_at zs (p / n) + p % n * j) e ∙ places-push xs (record { jump = jump; count = c }) n j p pos counted below

pub counted-push : (xs : List Axis) (b : Axis) → Counted xs → 0 < b.count → Counted (xs ++ b ∷ [])
counted-push [] b h lt zero d below = lt
counted-push [] b h lt (suc i) d below = absurd (omega arith)
counted-push (a ∷ xs) b h lt zero d below = head_counted a xs h
counted-push (a ∷ xs) b h lt (suc i) d below = counted-push xs b (rest_counted a xs h) lt i d (omega arith)
