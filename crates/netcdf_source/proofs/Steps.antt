-- The steps of the variables of a sound header.
use Rattle.std.proofs.Common.{◌≡◌, ◌≢◌, ℕ, zero, suc, ◌+◌, ◌-◌, ◌*◌, ◌^◌, ◌<◌, ◌≤◌, Bool, true, false, not, ◌&&◌, cond, eqb, List, [], ◌∷◌, ◌++◌, length, get_or, take, drop, refl, sym, ap, subst, add-one, drop-cons, arith}
use Rattle.std.specs.Prelude.{All, slice_index}
use Rattle.std.specs.List.{AllByRecursion}
use Rattle.std.proofs.lemmas.List.{drop_all}
use Rattle.std.proofs.lemmas.List.Elements.{All-from_recursion}
use Rattle.std.proofs.lemmas.Bool.{eqb-false}
use Rattle.std.proofs.Math.Nat.{mul-le-mul_left}
use Rattle.dap_types.specs.Model.{product}
use Rattle.netcdf_source.specs.Layouts.{row_steps, SuffixesFit, HasSteps, HaveSteps}
use Rattle.netcdf_source.specs.Mapping.{is_char_type, is_char, has_single_bytes, has_texts, element_dimensions, element_size}
use Rattle.netcdf_source.specs.Parts.{length_at, lengths, inner, part}
use Rattle.netcdf_source.specs.inner.Sound.{InTurn, IsId, IsVariable, IsSound}
use Rattle.netcdf_source.specs.Types.{size_of}
use Rattle.netcdf_source.specs.declared.external_type.ExternalType.{ExternalType}
use Rattle.netcdf_source.specs.declared.external_type.ExternalType.TheVariants.{Byte, Char, Short, Int, Float, Double, UByte, UShort, UInt, Int64, UInt64}
use Rattle.netcdf_source.specs.declared.header.Contents.{Contents}
use Rattle.netcdf_source.specs.declared.header.Dimension.{Dimension}
use Rattle.netcdf_source.specs.declared.header.Variable.{Variable}

-- ---- the loop over the dimensions

pub row_next : (dims : List Dimension) (ids : List ℕ) (i size : ℕ) → i < length ids
    → row_steps size (lengths dims (drop i ids)) ≡ size * product (lengths dims (drop (i + 1) ids)) ∷ row_steps size (lengths dims (drop (i + 1) ids))
unfolding row_steps
row_next dims ids i size lt = rw (drop-cons ids i 0 lt, add-one) refl

pub row_end : (dims : List Dimension) (ids : List ℕ) (i size : ℕ) → length ids ≤ i → row_steps size (lengths dims (drop i ids)) ≡ []
unfolding row_steps
row_end dims ids i size le = rw (drop_all i ids le) refl

pub lengths-drop : (dims : List Dimension) (k : ℕ) (ids : List ℕ) → lengths dims (drop k ids) ≡ drop k (lengths dims ids)
lengths-drop dims zero ids = refl
lengths-drop dims (suc k) [] = refl
lengths-drop dims (suc k) (i ∷ ids) = lengths-drop dims k ids

pub lengths-take : (dims : List Dimension) (k : ℕ) (ids : List ℕ) → lengths dims (take k ids) ≡ take k (lengths dims ids)
lengths-take dims zero ids = refl
lengths-take dims (suc k) [] = refl
lengths-take dims (suc k) (i ∷ ids) = ap (λ xs. length_at dims i ∷ xs) (lengths-take dims k ids)

pub suffix_fits : (dims : List Dimension) (ids : List ℕ) (size k : ℕ) → SuffixesFit (lengths dims ids) size → size * product (lengths dims (drop k ids)) ≤ 2 ^ 62
unfolding SuffixesFit
suffix_fits dims ids size k h = rw (lengths-drop dims k ids) (h k)

pub steps_at : (c : Contents) (vs : List Variable) → HaveSteps c vs → All (HasSteps c) vs
unfolding HaveSteps
steps_at c vs h = All-from_recursion (HasSteps c) vs h

-- ---- lengths that are not 0

abbrev pub ArePositive : List ℕ → Type 0
ArePositive [] = Unit {0}
ArePositive (n ∷ ns) = (n ≢ 0) × ArePositive ns

pub positive-take : (k : ℕ) (ns : List ℕ) → ArePositive ns → ArePositive (take k ns)
positive-take zero ns h = tt
positive-take (suc k) [] h = tt
positive-take (suc k) (n ∷ ns) h = (h.0, positive-take k ns h.1)

at_least : (n p : ℕ) → n ≢ 0 → p ≤ n * p
at_least zero p ne = absurd (ne refl)
at_least (suc n) p ne = omega (arith, mul-le-mul_left p (one_le n))
  where
    one_le : (k : ℕ) → 1 ≤ suc k
    one_le k = omega arith

pub product-drop : (ns : List ℕ) (i : ℕ) → ArePositive ns → product (drop i ns) ≤ product ns
product-drop ns zero h = omega arith
product-drop [] (suc i) h = omega arith
product-drop (n ∷ ns) (suc i) h = omega (arith, product-drop ns i h.1, at_least n (product ns) h.0)

behind_positive : (dims : List Dimension) (before ids : List ℕ) → length before ≢ 0 → InTurn (IsId dims) before ids → ArePositive (lengths dims ids)
unfolding InTurn
behind_positive dims before [] ne h = tt
behind_positive dims before (i ∷ ids) ne h = (h.0.inner ne, behind_positive dims (before ++ i ∷ []) ids (longer before i) h.1)
  where
    longer : (xs : List ℕ) (x : ℕ) → length (xs ++ x ∷ []) ≢ 0
    longer [] x e = omega (arith, e)
    longer (y ∷ ys) x e = omega (arith, e)

-- behind the first length all are positive
pub tail_positive : (dims : List Dimension) (i : ℕ) (ids : List ℕ) → InTurn (IsId dims) [] (i ∷ ids) → ArePositive (lengths dims ids)
unfolding InTurn
tail_positive dims i ids h = behind_positive dims (i ∷ []) ids one h.1
  where
    one : length (i ∷ []) ≢ 0
    one e = omega (arith, e)

inner_first : (n : ℕ) (ns : List ℕ) (b : Bool) → eqb n 0 ≡ b → ArePositive ns → ArePositive (cond b ns (n ∷ ns))
inner_first n ns true e h = h
inner_first n ns false e h = (eqb-false n 0 e, h)

pub inner_positive : (dims : List Dimension) (ids : List ℕ) → InTurn (IsId dims) [] ids → ArePositive (inner (lengths dims ids))
inner_positive dims [] h = tt
inner_positive dims (i ∷ ids) h = inner_first (length_at dims i) (lengths dims ids) (eqb (length_at dims i) 0) refl (tail_positive dims i ids h)

inner-take : (k : ℕ) (n : ℕ) (ns : List ℕ) (b : Bool) → ArePositive (cond b ns (n ∷ ns)) → ArePositive (cond b (take k ns) (n ∷ take k ns))
inner-take k n ns true h = positive-take k ns h
inner-take k n ns false h = (h.0, positive-take k ns h.1)

pub inner_positive-take : (k : ℕ) (ns : List ℕ) → ArePositive (inner ns) → ArePositive (inner (take k ns))
inner_positive-take zero ns h = tt
inner_positive-take (suc k) [] h = tt
inner_positive-take (suc k) (n ∷ ns) h = inner-take k n ns (eqb n 0) h

-- ---- the last length and those before it

product-last : (n : ℕ) (ns : List ℕ) → product (take (length ns) (n ∷ ns)) * get_or (n ∷ ns) (length ns) 0 ≡ product (n ∷ ns)
product-last n [] = omega arith
product-last n (m ∷ ns) = let e = product-last m ns in grind (arith, e)

-- the elements of a variable have the bytes of its part
abbrev texts_part : List ℕ → Type 0
texts_part ns = product (inner (take (length ns - 1) ns)) * get_or ns (length ns - 1) 0 ≡ product (inner ns)

split_first : (n m : ℕ) (ns : List ℕ) (b : Bool) → product (cond b (take (length ns) (m ∷ ns)) (n ∷ take (length ns) (m ∷ ns))) * get_or (m ∷ ns) (length ns) 0 ≡ product (cond b (m ∷ ns) (n ∷ m ∷ ns))
split_first n m ns true = product-last m ns
split_first n m ns false = let e = product-last m ns in grind (arith, e)

only_one : (n : ℕ) (b : Bool) → eqb n 0 ≡ b → b ≡ false → 1 * n ≡ product (cond b [] (n ∷ []))
only_one n true e ne = absurd cc
only_one n false e ne = omega arith

texts_part_is : (ns : List ℕ) → has_single_bytes ns ≡ false → texts_part ns
texts_part_is [] e = absurd cc
texts_part_is (n ∷ []) e = only_one n (eqb n 0) refl e
texts_part_is (n ∷ m ∷ ns) e =
    let last : suc (suc (length ns)) - 1 ≡ suc (length ns) = omega arith in
    subst (λ (k : ℕ). product (inner (take k (n ∷ m ∷ ns))) * get_or (n ∷ m ∷ ns) k 0 ≡ product (inner (n ∷ m ∷ ns))) (sym last) (split_first n m ns (eqb n 0))

char_size : (t : ExternalType) → is_char_type t ≡ true → size_of t ≡ 1
char_size Byte e = absurd cc
char_size Char e = refl
char_size Short e = absurd cc
char_size Int e = absurd cc
char_size Float e = absurd cc
char_size Double e = absurd cc
char_size UByte e = absurd cc
char_size UShort e = absurd cc
char_size UInt e = absurd cc
char_size Int64 e = absurd cc
char_size UInt64 e = absurd cc

pub and_yes : (a b : Bool) → (a && not b) ≡ true → (a ≡ true) × (b ≡ false)
and_yes true true e = absurd cc
and_yes true false e = (refl, refl)
and_yes false b e = absurd cc

-- the lengths of the elements' dimensions
pub element_lengths : (c : Contents) (v : Variable) → lengths c.dimensions (element_dimensions c v) ≡ cond (has_texts c v) (take (length v.dimensions - 1) (lengths c.dimensions v.dimensions)) (lengths c.dimensions v.dimensions)
unfolding element_dimensions
element_lengths c v = go (has_texts c v)
  where
    go : (b : Bool) → lengths c.dimensions (cond b (take (length v.dimensions - 1) v.dimensions) v.dimensions) ≡ cond b (take (length v.dimensions - 1) (lengths c.dimensions v.dimensions)) (lengths c.dimensions v.dimensions)
    go true = lengths-take c.dimensions (length v.dimensions - 1) v.dimensions
    go false = refl

pub length_of_map : (dims : List Dimension) (ids : List ℕ) → length (lengths dims ids) ≡ length ids
length_of_map dims [] = refl
length_of_map dims (i ∷ ids) = ap suc (length_of_map dims ids)

get_lengths : (dims : List Dimension) (ids : List ℕ) (k : ℕ) → k < length ids → get_or (lengths dims ids) k 0 ≡ length_at dims (get_or ids k 0)
get_lengths dims [] k lt = absurd (omega arith)
get_lengths dims (i ∷ ids) zero lt = refl
get_lengths dims (i ∷ ids) (suc k) lt = get_lengths dims ids k (omega arith)

some_ids : (dims : List Dimension) (ids : List ℕ) → has_single_bytes (lengths dims ids) ≡ false → length ids - 1 < length ids
some_ids dims [] e = absurd cc
some_ids dims (i ∷ ids) e = omega arith

pub element_part : (c : Contents) (v : Variable) → product (inner (lengths c.dimensions (element_dimensions c v))) * element_size c v ≡ part c.dimensions v.dimensions v.external_type
unfolding element_size part has_texts
element_part c v = rw (element_lengths c v) (go (has_texts c v) refl)
  where
    ns : List ℕ
    ns = lengths c.dimensions v.dimensions

    go : (b : Bool) → (is_char v && not (has_single_bytes ns)) ≡ b
        → product (inner (cond b (take (length v.dimensions - 1) ns) ns)) * cond b (length_at c.dimensions (slice_index v.dimensions (length v.dimensions - 1))) (size_of v.external_type) ≡ product (inner ns) * size_of v.external_type
    go true e =
        let both = and_yes (is_char v) (has_single_bytes ns) e in
        let one = char_size v.external_type both.0 in
        let split : product (inner (take (length ns - 1) ns)) * get_or ns (length ns - 1) 0 ≡ product (inner ns) = texts_part_is ns both.1 in
        let len = length_of_map c.dimensions v.dimensions in
        let last : get_or ns (length v.dimensions - 1) 0 ≡ length_at c.dimensions (get_or v.dimensions (length v.dimensions - 1) 0) = get_lengths c.dimensions v.dimensions (length v.dimensions - 1) (some_ids c.dimensions v.dimensions both.1) in
        let whole : product (inner (take (length v.dimensions - 1) ns)) * length_at c.dimensions (get_or v.dimensions (length v.dimensions - 1) 0) ≡ product (inner ns) = rw (← last, ← len) split in
        rw one (omega (arith, whole))
    go false e = refl

pub element_positive : (c : Contents) (before : List Variable) (v : Variable) → IsVariable c.dimensions before v → ArePositive (inner (lengths c.dimensions (element_dimensions c v)))
element_positive c before v h = rw (element_lengths c v) (go (has_texts c v))
  where
    positive : ArePositive (inner (lengths c.dimensions v.dimensions))
    positive = inner_positive c.dimensions v.dimensions h.ids

    go : (b : Bool) → ArePositive (inner (cond b (take (length v.dimensions - 1) (lengths c.dimensions v.dimensions)) (lengths c.dimensions v.dimensions)))
    go true = inner_positive-take (length v.dimensions - 1) (lengths c.dimensions v.dimensions) positive
    go false = positive

steps_fit : (c : Contents) (before : List Variable) (v : Variable) → IsVariable c.dimensions before v → HasSteps c v
unfolding HasSteps SuffixesFit
steps_fit c before v h = λ i.
    let ns = inner (lengths c.dimensions (element_dimensions c v)) in
    let less = product-drop ns i (element_positive c before v h) in
    omega (arith, mul-le-mul_left (element_size c v) less, element_part c v, h.bytes)

have_steps : (c : Contents) (before vs : List Variable) → InTurn (IsVariable c.dimensions) before vs → AllByRecursion (HasSteps c) vs
unfolding InTurn
have_steps c before [] h = tt
have_steps c before (v ∷ vs) h = (steps_fit c before v h.0, have_steps c (before ++ v ∷ []) vs h.1)

pub sound_steps : (c : Contents) → IsSound c → HaveSteps c c.variables
unfolding HaveSteps
sound_steps c h = have_steps c [] c.variables h.variables
