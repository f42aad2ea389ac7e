-- From slabs and steps to rows: the last dimension, and one dimension more.
use Rattle.std.proofs.Common.{◌≡◌, ℕ, ◌+◌, ◌-◌, ◌*◌, ◌/◌, ◌%◌, ◌<◌, ◌≤◌, List, length, get_or, drop, refl, sym, ap, ◌∙◌, subst, arith, add-zero, max}
use Rattle.std.proofs.Math.Nat.{mod-lt, mod-one, div-one, div-lt_iff_lt-mul, mul-le-mul_left, mul-le-mul_right, max-le, one-mul, zero-mul}
use Rattle.dap_types.specs.declared.slabs.Slab.{Slab}
use Rattle.hyperslab_plan.specs.Along.{rel}
use Rattle.hyperslab_plan.specs.Picked.{count_of, span, cost_of}
use Rattle.hyperslab_plan.proofs.PickedLemmas.{left_pos, count-drop_pos, count-drop_le, count-more, rel-more, cost-more}
use Prim.Native.Nat.{zero, suc}

-- a row that is read from its first to its last element
pub cost-row : (n j size stride step : ℕ) → 0 < n → 0 < stride → step ≤ size → (2 ≤ n → j ≡ stride * step) → (n - 1) * max j size + size ≤ span n stride * size
cost-row zero j size stride step some strided close far = absurd (omega arith)
cost-row (suc zero) j size stride step some strided close far = omega (arith, zero-mul (max j size), zero-mul stride)
cost-row (suc (suc m)) j size stride step some strided close far =
    let j_is : j ≡ stride * step = far (omega arith) in
    let a : stride * step ≤ stride * size = mul-le-mul_left stride close in
    let b : size ≤ stride * size = omega (arith, mul-le-mul_right size strided, one-mul size) in
    let c : max j size ≤ stride * size = max-le (omega arith) b in
    let d : suc m * max j size ≤ suc m * (stride * size) = mul-le-mul_left (suc m) c in
    let e : suc (suc m) - 1 ≡ suc m = omega arith in
    let f : (suc (suc m) - 1) * max j size ≡ suc m * max j size = ap (λ x. x * max j size) e in
    let g : (suc m * stride + 1) * size ≡ suc m * (stride * size) + size = omega arith in
    omega (arith, d, f, g)

-- elements that are read one by one
pub cost-singles : (n size stride x y : ℕ) → 0 < n → 0 < stride → x ≤ n * y → y ≡ (1 - 1) * max size size + size → x ≤ span n stride * size
cost-singles zero size stride x y some strided h is = absurd (omega arith)
cost-singles (suc m) size stride x y some strided h is =
    let y_is : y ≡ size = is ∙ omega (arith, zero-mul (max size size)) in
    let a : m * 1 ≤ m * stride = mul-le-mul_left m strided in
    let b : suc m ≤ m * stride + 1 = omega (arith, a) in
    let c : suc m * size ≤ (m * stride + 1) * size = mul-le-mul_right size b in
    subst (λ z. x ≤ suc m * z → x ≤ (m * stride + 1) * size) (sym y_is) (λ k. omega (arith, k, c)) h

pub places-singles : (f g : ℕ → ℕ) (e p j x n size : ℕ) → e ≡ 1 → g 0 ≡ 0 * size → f p ≡ p / e * j + g (p % e) → (2 ≤ n → j ≡ x) → p < n → f p ≡ p * x
places-singles f g e p j x n size one none is far below =
    let d : p / e ≡ p = ap (λ y. p / y) one ∙ div-one p in
    let m : p % e ≡ 0 = ap (λ y. p % y) one ∙ mod-one p in
    let z : g (p % e) ≡ 0 = ap (λ y. g y) m ∙ none ∙ zero-mul size in
    is ∙ ap (λ y. y * j + g (p % e)) d ∙ ap (λ y. p * j + y) z ∙ add-zero (p * j) ∙ at_most p j x n far below
  where
    at_most : (p j x n : ℕ) → (2 ≤ n → j ≡ x) → p < n → p * j ≡ p * x
    at_most zero j x n far below = zero-mul j ∙ sym (zero-mul x)
    at_most (suc p) j x n far below = ap (λ y. suc p * y) (far (omega arith))

pub places-row : (f : ℕ → ℕ) (p j x n : ℕ) → f p ≡ p * j → (2 ≤ n → j ≡ x) → p < n → f p ≡ p * x
places-row f zero j x n is far below = is ∙ zero-mul j ∙ sym (zero-mul x)
places-row f (suc p) j x n is far below = is ∙ ap (λ y. suc p * y) (far (omega arith))

pub count-at_pos : (slabs : List Slab) (i : ℕ) (d : Slab) → 0 < count_of slabs → i < length slabs → 0 < (get_or slabs i d).count
count-at_pos slabs i d pos lt =
    left_pos (get_or slabs i d).count (count_of (drop (i + 1) slabs)) 0 (subst (λ x. 0 < x) (count-more slabs i d lt) (count-drop_pos slabs i pos))

pub few-more : (slabs : List Slab) (i j : ℕ) (d : Slab) (e : ℕ) → 0 < count_of slabs → j + 1 ≡ i → j < length slabs → e ≡ count_of (drop i slabs) → (get_or slabs j d).count * e ≤ count_of slabs
few-more slabs i j d e pos next lt is =
    let more : count_of (drop j slabs) ≡ (get_or slabs j d).count * count_of (drop (j + 1) slabs) = count-more slabs j d lt in
    let same : (get_or slabs j d).count * count_of (drop (j + 1) slabs) ≡ (get_or slabs j d).count * e = ap (λ x. (get_or slabs j d).count * count_of (drop x slabs)) next ∙ ap (λ x. (get_or slabs j d).count * x) (sym is) in
    subst (λ x. x ≤ count_of slabs) (more ∙ same) (count-drop_le slabs j pos)

pub count-at_le : (slabs : List Slab) (i : ℕ) (d : Slab) → 0 < count_of slabs → i < length slabs → (get_or slabs i d).count ≤ count_of slabs
count-at_le slabs i d pos lt =
    let all : (get_or slabs i d).count * count_of (drop (i + 1) slabs) ≤ count_of slabs = few-more slabs (i + 1) i d (count_of (drop (i + 1) slabs)) pos refl lt refl in
    let rest : 1 ≤ count_of (drop (i + 1) slabs) = count-drop_pos slabs (i + 1) pos in
    let more : (get_or slabs i d).count * 1 ≤ (get_or slabs i d).count * count_of (drop (i + 1) slabs) = mul-le-mul_left (get_or slabs i d).count rest in
    omega (arith, all, more)

pub elements-next : (slabs : List Slab) (i j : ℕ) (d : Slab) (c e e' : ℕ) → j + 1 ≡ i → j < length slabs → c ≡ (get_or slabs j d).count → e ≡ count_of (drop i slabs) → e' ≡ c * e → e' ≡ count_of (drop j slabs)
elements-next slabs i j d c e e' next lt c_is is made =
    made ∙ ap (λ x. x * e) c_is ∙ ap (λ x. (get_or slabs j d).count * x) is ∙ ap (λ x. (get_or slabs j d).count * count_of (drop x slabs)) (sym next) ∙ sym (count-more slabs j d lt)

pub cost-next : (slabs : List Slab) (i j : ℕ) (d : Slab) (size c x y : ℕ) → j + 1 ≡ i → i < length slabs → c ≡ (get_or slabs j d).count → x ≤ cost_of (drop i slabs) size → y ≤ c * x → y ≤ cost_of (drop j slabs) size
cost-next slabs i j d size c x y next lt c_is below made =
    let more : c * x ≤ c * cost_of (drop i slabs) size = mul-le-mul_left c below in
    let is : cost_of (drop j slabs) size ≡ c * cost_of (drop i slabs) size
    = cost-more slabs j d size (omega arith) ∙ ap (λ z. z * cost_of (drop (j + 1) slabs) size) (sym c_is) ∙ ap (λ z. c * cost_of (drop z slabs) size) next in
    omega (arith, more, made, is)

pub places-next : (slabs : List Slab) (steps : List ℕ) (i j : ℕ) (d : Slab) (c e jump p : ℕ) (f g : ℕ → ℕ) → length slabs ≡ length steps → 0 < count_of slabs → j + 1 ≡ i → j < length slabs →
    c ≡ (get_or slabs j d).count → e ≡ count_of (drop i slabs) → ((q : ℕ) → q < count_of (drop i slabs) → g q ≡ rel (drop i slabs) (drop i steps) q) →
    (2 ≤ (get_or slabs j d).count → jump ≡ (get_or slabs j d).stride * get_or steps j 0) →
    ((q : ℕ) → q < c * e → f q ≡ q / e * jump + g (q % e)) → p < count_of (drop j slabs) → f p ≡ rel (drop j slabs) (drop j steps) p
places-next slabs steps i j d c e jump p f g one_each pos next lt c_is e_is inner far made below =
    let e_pos : 0 < e = subst (λ x. 0 < x) (sym e_is) (count-drop_pos slabs i pos) in
    let same : count_of (drop (j + 1) slabs) ≡ e = ap (λ x. count_of (drop x slabs)) next ∙ sym e_is in
    let total : count_of (drop j slabs) ≡ c * e = count-more slabs j d lt ∙ ap (λ x. (get_or slabs j d).count * x) same ∙ ap (λ x. x * e) (sym c_is) in
    let p_lt : p < c * e = subst (λ x. p < x) total below in
    let k_lt : p / e < c = (div-lt_iff_lt-mul e_pos).1 p_lt in
    let r_lt : p % e < e = mod-lt p e_pos in
    let in_rest : g (p % e) ≡ rel (drop i slabs) (drop i steps) (p % e) = inner (p % e) (subst (λ x. p % e < x) e_is r_lt) in
    let step : p / e * jump ≡ p / e * ((get_or slabs j d).stride * get_or steps j 0) = at_most (p / e) jump ((get_or slabs j d).stride * get_or steps j 0) (get_or slabs j d).count far (subst (λ x. p / e < x) c_is k_lt) in
    let rest : rel (drop (j + 1) slabs) (drop (j + 1) steps) (p % e) ≡ rel (drop i slabs) (drop i steps) (p % e) = ap (λ x. rel (drop x slabs) (drop x steps) (p % e)) next in
    made p p_lt ∙ ap (λ x. x + g (p % e)) step ∙ ap (λ x. p / e * ((get_or slabs j d).stride * get_or steps j 0) + x) (in_rest ∙ sym rest)
    ∙ ap (λ x. p / x * ((get_or slabs j d).stride * get_or steps j 0) + rel (drop (j + 1) slabs) (drop (j + 1) steps) (p % x)) (sym same)
    ∙ sym (rel-more slabs steps j d p lt one_each)
  where
    at_most : (q j x n : ℕ) → (2 ≤ n → j ≡ x) → q < n → q * j ≡ q * x
    at_most zero j x n far below = zero-mul j ∙ sym (zero-mul x)
    at_most (suc q) j x n far below = ap (λ y. suc q * y) (far (omega arith))
