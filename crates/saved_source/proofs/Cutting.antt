-- Elements of an array in its bytes, and what hyperslabs pick of them.
use Rattle.std.proofs.Common.{◌≡◌, ℕ, zero, suc, ◌+◌, ◌-◌, ◌*◌, ◌<◌, ◌≤◌, ◌^◌, List, [], ◌∷◌, ◌++◌, length, map, take, drop, get_or, All, refl, sym, ap, ◌∙◌, subst, arith, append_assoc, length-append, length-drop, drop-cons, slice_get}
use Rattle.std.specs.Prelude.{min}
use Rattle.std.specs.List.{cons_option, filter_map, flat_map, range_with_len}
use Rattle.std.proofs.lemmas.Grind.{flat_map-append}
use Rattle.std.proofs.lemmas.List.{take-append-drop, drop-drop}
use Rattle.std.proofs.lemmas.List.Elements.{All-append, All-nil}
use Rattle.std.proofs.Math.Nat.{mul-le-mul_right}
use Rattle.std.proofs.lemmas.Option.{slice_get-get_or}
use Rattle.hyperslab_plan.proofs.PickedLemmas.{index-within}
use Rattle.dap_types.specs.Model.{Tree, one, many, Trees, no_trees, tree, items, kids, product}
use Rattle.dap_types.specs.declared.declarations.BaseType.{BaseType}
use Rattle.dap_types.specs.declared.slabs.Slab.{Slab}
use Rattle.dap_types.specs.declared.values.Value.{Value}
use Rattle.dap_model.proofs.Cuts.{values_in-cut}
use Rattle.dap_model.proofs.Values.{all_first, all_rest, all_front, all_back, bytes_of-append, length-values_in, values_of_fit}
use Rattle.dap_model.specs.Cutting.{IsWithin, AreWithin, cut}
use Rattle.dap_model.specs.Fits.{FitsArray, IsMany, IsOf, values_in, values_in_all}
use Rattle.dap_model.specs.Xdr.{bytes_of}
use Rattle.xdr_decode.specs.inner.Taken.{element_fields, elements_fields}
use Rattle.xdr_values.specs.Walked.{StandElements}
use Rattle.saved_source.specs.Walked.{StandsNested}
use Rattle.xdr_values.proofs.ElementRuns.{run, StepsOver}

abbrev pub values_of : List Tree → List Value
values_of us = flat_map values_in us

pub run-append : (base : BaseType) (us vs : List Value) → run base (us ++ vs) ≡ run base us ++ run base vs
run-append base us vs = ap bytes_of (flat_map-append (element_fields base) us vs) ∙ bytes_of-append (elements_fields base us) (elements_fields base vs)

pub values_of_many : (t : Tree) → IsMany t → values_in t ≡ values_of (kids t)
values_of_many (one v) m = absurd m
values_of_many (many ts) m = all ts
  where
    all : (ts : Trees) → values_in_all ts ≡ values_of (items ts)
    all no_trees = refl
    all (tree t ts) = ap (λ vs. values_in t ++ vs) (all ts)

pub run_parts : (base : BaseType) (us : List Tree) (i : ℕ) → run base (values_of us) ≡ run base (values_of (take i us)) ++ run base (values_of (drop i us))
run_parts base us i =
    ap (λ l. run base (values_of l)) (sym (take-append-drop i us)) ∙ ap (run base) (flat_map-append values_in (take i us) (drop i us)) ∙ run-append base (values_of (take i us)) (values_of (drop i us))

pub long : (base : BaseType) (ns : List ℕ) (us : List Tree) → All (FitsArray base ns) us → length (values_of us) ≡ length us * product ns
long base ns [] all = omega arith
long base ns (u ∷ us) all =
    omega (arith, length-append (values_in u) (values_of us), length-values_in base ns u (all_first (FitsArray base ns) u us all), long base ns us (all_rest (FitsArray base ns) u us all))

pub are_of : (base : BaseType) (ns : List ℕ) (us : List Tree) → All (FitsArray base ns) us → All (IsOf base) (values_of us)
are_of base ns [] all = All-nil (IsOf base)
are_of base ns (u ∷ us) all =
    All-append (IsOf base) (values_in u) (values_of us) (values_of_fit base ns u (all_first (FitsArray base ns) u us all)) (are_of base ns us (all_rest (FitsArray base ns) u us all))

pub all_take : {X : Type 0} (P : X → Type 0) (xs : List X) (i : ℕ) → All P xs → All P (take i xs)
all_take P xs i all = all_front P (take i xs) (drop i xs) (subst (All P) (sym (take-append-drop i xs)) all)

pub all_drop : {X : Type 0} (P : X → Type 0) (xs : List X) (i : ℕ) → All P xs → All P (drop i xs)
all_drop P xs i all = all_back P (take i xs) (drop i xs) (subst (All P) (sym (take-append-drop i xs)) all)

pub take_long : {X : Type 0} (xs : List X) (i : ℕ) → i ≤ length xs → length (take i xs) ≡ i
take_long xs i le = omega (arith, ap length (take-append-drop i xs), length-append (take i xs) (drop i xs), length-drop i xs)

-- the first i trees stand there as elements
pub first_stand : (base : BaseType) (ns : List ℕ) (us : List Tree) (i : ℕ) (bytes rest : List ℕ) → All (FitsArray base ns) us → bytes ≡ run base (values_of us) ++ rest
    → StandElements base (values_of (take i us)) bytes (run base (values_of (drop i us)) ++ rest)
first_stand base ns us i bytes rest all is = record {
  are_of = are_of base ns (take i us) (all_take (FitsArray base ns) us i all);
  parts = is ∙ ap (λ l. l ++ rest) (run_parts base us i) ∙ append_assoc (run base (values_of (take i us))) (run base (values_of (drop i us))) rest;
}

-- ---- the indexes of a hyperslab

-- what it picks from its k-th index on, m items
abbrev pub picks_from : {X : Type 0} → Slab → List X → ℕ → ℕ → List X
picks_from s us k m = filter_map (slice_get us) (map (λ k. s.start + k * s.stride) (range_with_len k m))

pub picks_next : {X : Type 0} (s : Slab) (us : List X) (k m : ℕ) (d : X) → s.start + k * s.stride < length us → picks_from s us k (suc m) ≡ get_or us (s.start + k * s.stride) d ∷ picks_from s us (k + 1) m
picks_next s us k m d lt = ap (λ o. cons_option o (picks_from s us (k + 1) m)) (slice_get-get_or us (s.start + k * s.stride) d lt)

-- the bytes of what hyperslabs cut out of trees
abbrev pub cut_run : BaseType → List Slab → List Tree → List ℕ
cut_run base slabs us = run base (flat_map (λ u. values_in (cut slabs u)) us)

-- the kid at the k-th index
abbrev pub kid_at : Slab → Tree → ℕ → Tree
kid_at s t k = get_or (kids t) (s.start + k * s.stride) t

pub picked_next : (base : BaseType) (n : ℕ) (s : Slab) (slabs : List Slab) (t : Tree) (k : ℕ) → IsWithin s n → length (kids t) ≡ n → k < s.count
    → cut_run base slabs (picks_from s (kids t) k (s.count - k)) ≡ run base (values_in (cut slabs (kid_at s t k))) ++ cut_run base slabs (picks_from s (kids t) (k + 1) (s.count - (k + 1)))
picked_next base n s slabs t k w is lt =
    let m : s.count - k ≡ suc (s.count - (k + 1)) = omega arith in
    let inside : s.start + k * s.stride < length (kids t) = omega (arith, index-within s n k w lt, is) in
    ap (λ j. cut_run base slabs (picks_from s (kids t) k j)) m
    ∙ ap (cut_run base slabs) (picks_next s (kids t) k (s.count - (k + 1)) t inside)
    ∙ run-append base (values_in (cut slabs (kid_at s t k))) (flat_map (λ u. values_in (cut slabs u)) (picks_from s (kids t) (k + 1) (s.count - (k + 1))))

pub picked_none : (base : BaseType) (s : Slab) (slabs : List Slab) (t : Tree) (k : ℕ) → s.count ≤ k → cut_run base slabs (picks_from s (kids t) k (s.count - k)) ≡ []
unfolding bytes_of
picked_none base s slabs t k le = let none : s.count - k ≡ 0 = omega arith in rw none refl

pub picked_all : (base : BaseType) (s : Slab) (slabs : List Slab) (t : Tree) → cut_run base slabs (picks_from s (kids t) 0 (s.count - 0)) ≡ run base (values_in (cut (s ∷ slabs) t))
picked_all base s slabs t =
    let all : s.count - 0 ≡ s.count = omega arith in
    ap (λ j. cut_run base slabs (picks_from s (kids t) 0 j)) all ∙ ap (run base) (sym (values_in-cut s slabs t))

-- ---- the way from one index to the next
pub record IsNested (base : BaseType) (n : ℕ) (ns : List ℕ) (s : Slab) (slabs : List Slab) (t : Tree) (bytes rest : List ℕ) : Type 0 where
  pub is_many : IsMany t
  pub kids_long : length (kids t) ≡ n
  pub kids_fit : All (FitsArray base ns) (kids t)
  pub within : IsWithin s n
  pub others : AreWithin slabs ns
  pub few : n * product ns < 2 ^ 32
  pub parts : bytes ≡ run base (values_of (kids t)) ++ rest

pub nested : (base : BaseType) (n : ℕ) (ns : List ℕ) (s : Slab) (slabs : List Slab) (t : Tree) (bytes rest : List ℕ) → StandsNested base (n ∷ ns) (s ∷ slabs) t bytes rest → IsNested base n ns s slabs t bytes rest
nested base n ns s slabs (one v) bytes rest st = absurd st.fit
nested base n ns s slabs (many ts) bytes rest st = record {
  is_many = tt;
  kids_long = st.fit.0;
  kids_fit = st.fit.1;
  within = st.within.0;
  others = st.within.1;
  few = st.few;
  parts = st.parts ∙ ap (λ vs. run base vs ++ rest) (values_of_many (many ts) tt);
}

-- before the k-th index what is left begins with the elements there
abbrev pub IsAt : BaseType → Slab → Tree → List ℕ → ℕ → List ℕ → Type 0
IsAt base s t rest k left = k < s.count → left ≡ run base (values_of (drop (s.start + k * s.stride) (kids t))) ++ rest

pub inner_small : (n p inner : ℕ) → n * p < 2 ^ 32 → 0 < n → inner ≡ min p 4294967296 → inner ≡ p
inner_small zero p inner few some is = elim some [ ]
inner_small (suc n) p inner few some is = let q : n * p + p < 2 ^ 32 = omega arith in omega (arith, q, is)

pub step_small : (m n p : ℕ) → m ≤ n → n * p < 2 ^ 32 → m * p * 8 < 2 ^ 64
step_small m n p le few = let small : m * p ≤ n * p = mul-le-mul_right p le in omega (arith, small, few)

pub at_first : (base : BaseType) (n : ℕ) (ns : List ℕ) (s : Slab) (slabs : List Slab) (t : Tree) (bytes rest left : List ℕ) (inner count : ℕ) → IsNested base n ns s slabs t bytes rest
    → inner ≡ min (product ns) 4294967296 → count ≡ s.start * inner → StepsOver base count bytes left → IsAt base s t rest 0 left
at_first base n ns s slabs t bytes rest left inner count st inner_is count_is step = λ lt.
    let inside : s.start + 0 * s.stride < n = index-within s n 0 st.within lt in
    let same : inner ≡ product ns = inner_small n (product ns) inner st.few (omega arith) inner_is in
    let at : s.start + 0 * s.stride ≡ s.start = omega arith in
    let below : s.start ≤ length (kids t) = omega (arith, st.kids_long, inside) in
    let total : count ≡ s.start * product ns = count_is ∙ ap (λ i. s.start * i) same in
    let n_long : length (values_of (take s.start (kids t))) ≡ count =
    long base ns (take s.start (kids t)) (all_take (FitsArray base ns) (kids t) s.start st.kids_fit) ∙ ap (λ l. l * product ns) (take_long (kids t) s.start below) ∙ sym total in
    let small : count * 8 < 2 ^ 64 = subst (λ c. c * 8 < 2 ^ 64) (sym total) (step_small s.start n (product ns) (omega arith) st.few) in
    step (values_of (take s.start (kids t))) _ n_long small (first_stand base ns (kids t) s.start bytes rest st.kids_fit st.parts)
    ∙ ap (λ i. run base (values_of (drop i (kids t))) ++ rest) (sym at)

pub at_next : (base : BaseType) (n : ℕ) (ns : List ℕ) (s : Slab) (slabs : List Slab) (t : Tree) (bytes rest left next : List ℕ) (inner count k : ℕ) → IsNested base n ns s slabs t bytes rest
    → inner ≡ min (product ns) 4294967296 → count ≡ s.stride * inner → IsAt base s t rest k left → StepsOver base count left next → IsAt base s t rest (k + 1) next
at_next base n ns s slabs t bytes rest left next inner count k st inner_is count_is before step = λ lt.
    let i : ℕ = s.start + k * s.stride in
    let us : List Tree = drop i (kids t) in
    let inside : s.start + (k + 1) * s.stride < n = index-within s n (k + 1) st.within lt in
    let at : i + s.stride ≡ s.start + (k + 1) * s.stride = omega arith in
    let same : inner ≡ product ns = inner_small n (product ns) inner st.few (omega arith) inner_is in
    let below : s.stride ≤ length us = omega (arith, st.kids_long, inside, at, length-drop i (kids t)) in
    let total : count ≡ s.stride * product ns = count_is ∙ ap (λ j. s.stride * j) same in
    let fit : All (FitsArray base ns) us = all_drop (FitsArray base ns) (kids t) i st.kids_fit in
    let n_long : length (values_of (take s.stride us)) ≡ count =
    long base ns (take s.stride us) (all_take (FitsArray base ns) us s.stride fit) ∙ ap (λ l. l * product ns) (take_long us s.stride below) ∙ sym total in
    let small : count * 8 < 2 ^ 64 = subst (λ c. c * 8 < 2 ^ 64) (sym total) (step_small s.stride n (product ns) (omega arith) st.few) in
    step (values_of (take s.stride us)) _ n_long small (first_stand base ns us s.stride left rest fit (before (omega arith)))
    ∙ ap (λ l. run base (values_of l) ++ rest) (drop-drop s.stride i (kids t) ∙ ap (λ j. drop j (kids t)) at)

pub kid_stands : (base : BaseType) (n : ℕ) (ns : List ℕ) (s : Slab) (slabs : List Slab) (t : Tree) (bytes rest left : List ℕ) (k : ℕ) → IsNested base n ns s slabs t bytes rest → IsAt base s t rest k left → k < s.count
    → StandsNested base ns slabs (kid_at s t k) left (run base (values_of (drop (suc (s.start + k * s.stride)) (kids t))) ++ rest)
kid_stands base n ns s slabs t bytes rest left k st at lt =
    let i : ℕ = s.start + k * s.stride in
    let inside : i < length (kids t) = omega (arith, index-within s n k st.within lt, st.kids_long) in
    record {
      fit = st.kids_fit i t inside;
      within = st.others;
      few = inner_few n (product ns) st.few (omega (arith, inside, st.kids_long));
      parts = at lt ∙ ap (λ us. run base (values_of us) ++ rest) (drop-cons (kids t) i t inside)
          ∙ ap (λ l. l ++ rest) (run-append base (values_in (kid_at s t k)) (values_of (drop (suc i) (kids t))))
          ∙ append_assoc (run base (values_in (kid_at s t k))) (run base (values_of (drop (suc i) (kids t)))) rest;
    }
  where
    inner_few : (n p : ℕ) → n * p < 2 ^ 32 → 0 < n → p < 2 ^ 32
    inner_few zero p few some = elim some [ ]
    inner_few (suc n) p few some = let q : n * p + p < 2 ^ 32 = omega arith in omega (arith, q)
