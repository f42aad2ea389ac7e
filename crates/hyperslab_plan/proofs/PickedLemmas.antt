-- The p-th picked place, by the indexes of p.
use Rattle.std.proofs.Common.{◌≡◌, ℕ, ◌+◌, ◌-◌, ◌*◌, ◌/◌, ◌%◌, ◌<◌, ◌≤◌, List, [], ◌∷◌, length, get_or, refl, sym, ap, ◌∙◌, subst, arith, zero-add, drop, ◌^◌}
use Rattle.std.proofs.Math.Nat.{mod-lt, mod-eq_of_lt, div_self, div-eq_of_lt, div-lt_iff_lt-mul, div-add-mod', mul-le-mul_right, one-mul, zero-mul}
use Rattle.std.proofs.lemmas.List.{drop_more}
use Rattle.std.proofs.lemmas.List.Elements.{All-get_or, All-from_get_or}
use Rattle.std.proofs.lemmas.List.Folds.{flat_map-map}
use Rattle.std.proofs.lemmas.List.FromFn.{get_or-map-range_with_len, length-map-range_with_len}
use Rattle.std.specs.List.{flat_map, range_with_len, All}
use Rattle.dap_model.specs.Cutting.{indexes, AreWithin, IsWithin}
use Rattle.dap_types.specs.declared.slabs.Slab.{Slab}
use Rattle.hyperslab_plan.specs.Along.{starts, rel, Spaced}
use Rattle.hyperslab_plan.specs.Picked.{picked, count_of, reach, highest, cost_of}
use Rattle.hyperslab_plan.proofs.BlockLemmas.{length-blocks, get_or-blocks}
use Prim.Native.Nat.{zero, suc}

-- the places by the number of the first index
picked-blocks : (s : Slab) (ss : List Slab) (t : ℕ) (ts : List ℕ) (base : ℕ) → flat_map (λ i. picked ss ts (base + i * t)) (indexes s) ≡ flat_map (λ k. picked ss ts (base + (s.start + k * s.stride) * t)) (range_with_len 0 s.count)
picked-blocks s ss t ts base = flat_map-map (λ i. picked ss ts (base + i * t)) (λ k. s.start + k * s.stride) (range_with_len 0 s.count)

pub length-picked : (slabs : List Slab) (steps : List ℕ) (base : ℕ) → length slabs ≡ length steps → length (picked slabs steps base) ≡ count_of slabs
unfolding picked
length-picked [] [] base e = refl
length-picked [] (t ∷ ts) base e = absurd (omega arith)
length-picked (s ∷ ss) [] base e = absurd (omega arith)
length-picked (s ∷ ss) (t ∷ ts) base e =
    ap length (picked-blocks s ss t ts base) ∙ length-blocks (λ k. picked ss ts (base + (s.start + k * s.stride) * t)) (count_of ss) 0 s.count (λ k. length-picked ss ts (base + (s.start + k * s.stride) * t) (omega arith))

pub get_or-picked : (slabs : List Slab) (steps : List ℕ) (base p : ℕ) → length slabs ≡ length steps → p < count_of slabs →
    get_or (picked slabs steps base) p 0 ≡ base + starts slabs steps + rel slabs steps p
unfolding picked
get_or-picked [] [] base zero e h = omega arith
get_or-picked [] [] base (suc p) e h = absurd (omega arith)
get_or-picked [] (t ∷ ts) base p e h = absurd (omega arith)
get_or-picked (s ∷ ss) [] base p e h = absurd (omega arith)
get_or-picked (s ∷ ss) (t ∷ ts) base p e h =
    let pos : 0 < count_of ss = positive s.count (count_of ss) p h in
    let whole : p / count_of ss * count_of ss + p % count_of ss ≡ p = div-add-mod' p (count_of ss) in
    let r_lt : p % count_of ss < count_of ss = mod-lt p pos in
    let k_lt : p / count_of ss < s.count = (div-lt_iff_lt-mul pos).1 h in
    let blocks : get_or (flat_map (λ k. picked ss ts (base + (s.start + k * s.stride) * t)) (range_with_len 0 s.count)) (p / count_of ss * count_of ss + p % count_of ss) 0
    ≡ get_or (picked ss ts (base + (s.start + (0 + p / count_of ss) * s.stride) * t)) (p % count_of ss) 0
    = get_or-blocks (λ k. picked ss ts (base + (s.start + k * s.stride) * t)) (count_of ss) 0 s.count (p / count_of ss) (p % count_of ss) 0
    (λ k. length-picked ss ts (base + (s.start + k * s.stride) * t) (omega arith)) k_lt r_lt in
    ap (λ xs. get_or xs p 0) (picked-blocks s ss t ts base)
    ∙ ap (λ x. get_or (flat_map (λ k. picked ss ts (base + (s.start + k * s.stride) * t)) (range_with_len 0 s.count)) x 0) (sym whole)
    ∙ blocks
    ∙ get_or-picked ss ts (base + (s.start + (0 + p / count_of ss) * s.stride) * t) (p % count_of ss) (omega arith) r_lt
    ∙ sums base s.start s.stride t (p / count_of ss) (starts ss ts) (rel ss ts (p % count_of ss))
  where
    positive : (c m p : ℕ) → p < c * m → 0 < m
    positive c zero p h = absurd (omega arith)
    positive c (suc m) p h = omega arith

    sums : (base start stride t k a b : ℕ) → base + (start + (0 + k) * stride) * t + a + b ≡ base + (start * t + a) + (k * (stride * t) + b)
    sums base start stride t k a b = omega arith

-- ---- a product that is not 0
pub left_pos : (c m p : ℕ) → p < c * m → 0 < c
left_pos zero m p h = absurd (omega (arith, zero-mul m))
left_pos (suc c) m p h = omega arith

pub right_pos : (c m p : ℕ) → p < c * m → 0 < m
right_pos c zero p h = absurd (omega arith)
right_pos c (suc m) p h = omega arith

pub count-drop_pos : (slabs : List Slab) (i : ℕ) → 0 < count_of slabs → 0 < count_of (drop i slabs)
count-drop_pos slabs zero h = h
count-drop_pos [] (suc i) h = h
count-drop_pos (s ∷ ss) (suc i) h = count-drop_pos ss i (right_pos s.count (count_of ss) 0 h)

pub count-drop_le : (slabs : List Slab) (i : ℕ) → 0 < count_of slabs → count_of (drop i slabs) ≤ count_of slabs
count-drop_le slabs zero h = omega arith
count-drop_le [] (suc i) h = omega arith
count-drop_le (s ∷ ss) (suc i) h =
    let below : count_of (drop i ss) ≤ count_of ss = count-drop_le ss i (right_pos s.count (count_of ss) 0 h) in
    let some : 1 ≤ s.count = left_pos s.count (count_of ss) 0 h in
    let more : 1 * count_of ss ≤ s.count * count_of ss = mul-le-mul_right (count_of ss) some in
    omega (arith, below, more, one-mul (count_of ss))

-- ---- one slab more
pub count-more : (slabs : List Slab) (i : ℕ) (d : Slab) → i < length slabs → count_of (drop i slabs) ≡ (get_or slabs i d).count * count_of (drop (i + 1) slabs)
count-more slabs i d h = ap (λ (xs : List Slab). count_of xs) (drop_more slabs i d h)

pub rel-more : (slabs : List Slab) (steps : List ℕ) (i : ℕ) (d : Slab) (p : ℕ) → i < length slabs → length slabs ≡ length steps →
    rel (drop i slabs) (drop i steps) p ≡ p / count_of (drop (i + 1) slabs) * ((get_or slabs i d).stride * get_or steps i 0) + rel (drop (i + 1) slabs) (drop (i + 1) steps) (p % count_of (drop (i + 1) slabs))
rel-more slabs steps i d p h e =
    let h' : i < length steps = omega arith in
    ap (λ (xs : List Slab). rel xs (drop i steps) p) (drop_more slabs i d h) ∙ ap (λ (ts : List ℕ). rel (get_or slabs i d ∷ drop (i + 1) slabs) ts p) (drop_more steps i 0 h')

pub starts-more : (slabs : List Slab) (steps : List ℕ) (i : ℕ) (d : Slab) → i < length slabs → length slabs ≡ length steps →
    starts (drop i slabs) (drop i steps) ≡ (get_or slabs i d).start * get_or steps i 0 + starts (drop (i + 1) slabs) (drop (i + 1) steps)
starts-more slabs steps i d h e =
    let h' : i < length steps = omega arith in
    ap (λ (xs : List Slab). starts xs (drop i steps)) (drop_more slabs i d h) ∙ ap (λ (ts : List ℕ). starts (get_or slabs i d ∷ drop (i + 1) slabs) ts) (drop_more steps i 0 h')

pub cost-more : (slabs : List Slab) (i : ℕ) (d : Slab) (size : ℕ) → i + 1 < length slabs → cost_of (drop i slabs) size ≡ (get_or slabs i d).count * cost_of (drop (i + 1) slabs) size
cost-more slabs i d size h =
    let h0 : i < length slabs = omega arith in
    ap (λ (xs : List Slab). cost_of xs size) (drop_more slabs i d h0 ∙ ap (λ (xs : List Slab). get_or slabs i d ∷ xs) (drop_more slabs (i + 1) d h))
    ∙ ap (λ (xs : List Slab). (get_or slabs i d).count * cost_of xs size) (sym (drop_more slabs (i + 1) d h))

-- ---- each step is reached, where two indexes are picked
reaches : (slabs : List Slab) (steps : List ℕ) (i : ℕ) (d : Slab) → length slabs ≡ length steps → 0 < count_of slabs → i < length slabs → 2 ≤ (get_or slabs i d).count →
    (p : ℕ) × (p < count_of slabs) × ((get_or slabs i d).stride * get_or steps i 0 ≤ rel slabs steps p)
reaches [] ts i d e pos lt two = absurd (omega arith)
reaches (s ∷ ss) [] i d e pos lt two = absurd (omega arith)
reaches (s ∷ ss) (t ∷ ts) zero d e pos lt two =
    let m_pos : 0 < count_of ss = right_pos s.count (count_of ss) 0 pos in
    let more : 2 * count_of ss ≤ s.count * count_of ss = mul-le-mul_right (count_of ss) two in
    let one : count_of ss / count_of ss ≡ 1 = div_self m_pos in
    let once : count_of ss / count_of ss * (s.stride * t) ≡ s.stride * t = ap (λ x. x * (s.stride * t)) one ∙ one-mul _ in
    (count_of ss, omega arith, omega (arith, once))
reaches (s ∷ ss) (t ∷ ts) (suc i) d e pos lt two =
    let m_pos : 0 < count_of ss = right_pos s.count (count_of ss) 0 pos in
    let found = reaches ss ts i d (omega arith) m_pos (omega arith) two in
    found_in found
  where
    found_in : (p : ℕ) × (p < count_of ss) × ((get_or ss i d).stride * get_or ts i 0 ≤ rel ss ts p) →
        (p : ℕ) × (p < s.count * count_of ss) × ((get_or ss i d).stride * get_or ts i 0 ≤ p / count_of ss * (s.stride * t) + rel ss ts (p % count_of ss))
    found_in (p, below, reach) =
        let some : 1 ≤ s.count = left_pos s.count (count_of ss) 0 pos in
        let more : 1 * count_of ss ≤ s.count * count_of ss = mul-le-mul_right (count_of ss) some in
        let z : p / count_of ss * (s.stride * t) ≡ 0 = ap (λ x. x * (s.stride * t)) (div-eq_of_lt below) ∙ zero-mul _ in
        let m : rel ss ts (p % count_of ss) ≡ rel ss ts p = ap (λ x. rel ss ts x) (mod-eq_of_lt below) in
        (p, omega (arith, one-mul (count_of ss)), omega (arith, z, m))

pub below-picked : (slabs : List Slab) (steps : List ℕ) (base : ℕ) → length slabs ≡ length steps → All (λ a. a < 2 ^ 63) (picked slabs steps base) →
    (p : ℕ) → p < count_of slabs → base + starts slabs steps + rel slabs steps p < 2 ^ 63
below-picked slabs steps base e all p h =
    let len : p < length (picked slabs steps base) = omega (arith, length-picked slabs steps base e) in
    let got : get_or (picked slabs steps base) p 0 < 2 ^ 63 = All-get_or (λ a. a < 2 ^ 63) (picked slabs steps base) p 0 len all in
    subst (λ x. x < 2 ^ 63) (get_or-picked slabs steps base p e h) got

pub spaced : (slabs : List Slab) (steps : List ℕ) (base : ℕ) → length slabs ≡ length steps → 0 < count_of slabs → All (λ a. a < 2 ^ 63) (picked slabs steps base) → Spaced slabs steps
spaced slabs steps base e pos all i d lt two = from (reaches slabs steps i d e pos lt two)
  where
    from : (p : ℕ) × (p < count_of slabs) × ((get_or slabs i d).stride * get_or steps i 0 ≤ rel slabs steps p) → (get_or slabs i d).stride * get_or steps i 0 < 2 ^ 63
    from (p, below, reach) = let b : base + starts slabs steps + rel slabs steps p < 2 ^ 63 = below-picked slabs steps base e all p below in omega arith

-- ---- the condition of `new`, from the place of the array's last element
pub index-within : (s : Slab) (n k : ℕ) → IsWithin s n → k < s.count → s.start + k * s.stride < n
index-within s n k within lt =
    let long : length (indexes s) ≡ s.count = length-map-range_with_len (λ k. s.start + k * s.stride) 0 s.count in
    subst (λ i. i < n) (get_or-map-range_with_len (λ k. s.start + k * s.stride) 0 s.count k k 0 lt (zero-add k)) (within.1 k 0 (omega arith))

rel-highest : (slabs : List Slab) (steps : List ℕ) (p : ℕ) → length slabs ≡ length steps → p < count_of slabs → starts slabs steps + rel slabs steps p ≤ highest slabs steps
rel-highest [] ts p e h = omega arith
rel-highest (s ∷ ss) [] p e h = absurd (omega arith)
rel-highest (s ∷ ss) (t ∷ ts) p e h =
    let pos : 0 < count_of ss = right_pos s.count (count_of ss) p h in
    let r_lt : p % count_of ss < count_of ss = mod-lt p pos in
    let k_lt : p / count_of ss < s.count = (div-lt_iff_lt-mul pos).1 h in
    let index : p / count_of ss * s.stride ≤ (s.count - 1) * s.stride = mul-le-mul_right s.stride (omega arith) in
    let here : (s.start + p / count_of ss * s.stride) * t ≤ (s.start + (s.count - 1) * s.stride) * t = mul-le-mul_right t (omega arith) in
    let rest : starts ss ts + rel ss ts (p % count_of ss) ≤ highest ss ts = rel-highest ss ts (p % count_of ss) (omega arith) r_lt in
    let split : (s.start + p / count_of ss * s.stride) * t ≡ s.start * t + p / count_of ss * (s.stride * t) = spread s.start (p / count_of ss) s.stride t in
    omega (arith, here, rest, split)
  where
    spread : (a k b t : ℕ) → (a + k * b) * t ≡ a * t + k * (b * t)
    spread a k b t = omega arith

-- where the last picked element stands below some place, each one does
pub picked-below : (slabs : List Slab) (steps : List ℕ) (base most : ℕ) → length slabs ≡ length steps → base + highest slabs steps < most → All (λ a. a < most) (picked slabs steps base)
picked-below slabs steps base most e h =
    All-from_get_or (λ a. a < most) (picked slabs steps base) 0
    (λ p below.
    let inside : p < count_of slabs = omega (arith, length-picked slabs steps base e) in
    subst (λ x. x < most) (sym (get_or-picked slabs steps base p e inside)) (omega (arith, rel-highest slabs steps p e inside)))

highest-reach : (slabs : List Slab) (sizes steps : List ℕ) → AreWithin slabs sizes → length slabs ≡ length steps → 0 < count_of slabs → highest slabs steps ≤ reach sizes steps
highest-reach [] [] ts w e h = omega arith
highest-reach [] (n ∷ ns) ts w e h = absurd w
highest-reach (s ∷ ss) [] ts w e h = absurd w
highest-reach (s ∷ ss) (n ∷ ns) [] w e h = absurd (omega arith)
highest-reach (s ∷ ss) (n ∷ ns) (t ∷ ts) w e h =
    let some : 0 < s.count = left_pos s.count (count_of ss) 0 h in
    let inside : s.start + (s.count - 1) * s.stride < n = index-within s n (s.count - 1) w.0 (omega arith) in
    let here : (s.start + (s.count - 1) * s.stride) * t ≤ (n - 1) * t = mul-le-mul_right t (omega arith) in
    let rest : highest ss ts ≤ reach ns ts = highest-reach ss ns ts w.1 (omega arith) (right_pos s.count (count_of ss) 0 h) in
    omega (arith, here, rest)

-- where the last element of an array stands below some place, each picked one does
pub picked-below_reach : (slabs : List Slab) (sizes steps : List ℕ) (base most : ℕ) → AreWithin slabs sizes → length slabs ≡ length steps → base + reach sizes steps < most → All (λ a. a < most) (picked slabs steps base)
picked-below_reach slabs sizes steps base most w e h =
    All-from_get_or (λ a. a < most) (picked slabs steps base) 0
    (λ p below.
    let inside : p < count_of slabs = omega (arith, length-picked slabs steps base e) in
    let reaches : highest slabs steps ≤ reach sizes steps = highest-reach slabs sizes steps w e (omega arith) in
    subst (λ x. x < most) (sym (get_or-picked slabs steps base p e inside)) (omega (arith, rel-highest slabs steps p e inside, reaches)))
