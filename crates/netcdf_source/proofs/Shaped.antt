-- What the layouts of leaves say of their elements.
use Rattle.std.proofs.Common.{◌≡◌, ℕ, zero, suc, ◌+◌, ◌-◌, ◌*◌, ◌<◌, ◌≤◌, Bool, true, false, not, ◌&&◌, cond, eqb, List, [], ◌∷◌, ◌++◌, length, map, Option, Some, None, MatchOption, refl, sym, ap, subst, ◌∙◌, append_assoc, length-append, arith}
use Rattle.std.specs.Prelude.{is_some, option_map, option_and_then, slice_get, slice_index}
use Rattle.std.specs.List.{AllByRecursion}
use Rattle.std.proofs.Math.Nat.{mul-le-mul_left}
use Rattle.dap_types.specs.Model.{product}
use Rattle.dap_types.specs.declared.slabs.Layout.{Layout}
use Rattle.netcdf_source.specs.Layouts.{row_steps, steps_of, layout_of, IsShaped, LeafIsShaped}
use Rattle.netcdf_source.specs.Mapping.{is_char, has_texts, has_single_bytes, element_dimensions, element_size, is_offered, coordinate_at, is_grid, leaves_of, leaves_from, leaf_in, leaf_variable}
use Rattle.netcdf_source.specs.Parts.{length_at, lengths, inner, part, record_size, begins_with_records}
use Rattle.netcdf_source.specs.inner.Sound.{InTurn, IsVariable, IsSound}
use Rattle.netcdf_source.specs.Types.{size_of}
use Rattle.netcdf_source.specs.declared.external_type.ExternalType.{ExternalType}
use Rattle.netcdf_source.specs.declared.external_type.ExternalType.TheVariants.{Byte, Char, Short, Int, Float, Double, UByte, UShort, UInt, Int64, UInt64}
use Rattle.netcdf_source.specs.declared.header.Contents.{Contents}
use Rattle.netcdf_source.specs.declared.header.Variable.{Variable}
use Rattle.netcdf_source.proofs.Offered.{offered_size}
use Rattle.netcdf_source.proofs.GridMaps.{coordinate_found, own_offered, at_front}
use Rattle.netcdf_source.proofs.Steps.{ArePositive, element_part, inner_positive, length_of_map}

-- ---- steps

length-row_steps : (size : ℕ) (ns : List ℕ) → length (row_steps size ns) ≡ length ns
unfolding row_steps
length-row_steps size [] = refl
length-row_steps size (n ∷ ns) = ap suc (length-row_steps size ns)

steps_len : (step size : ℕ) (ns : List ℕ) → length (cond (begins_with_records ns) (step ∷ []) [] ++ row_steps size (inner ns)) ≡ length ns
steps_len step size [] = length-row_steps size []
steps_len step size (n ∷ ns) = go (eqb n 0)
  where
    go : (b : Bool) → length (cond b (step ∷ []) [] ++ row_steps size (cond b ns (n ∷ ns))) ≡ length (n ∷ ns)
    go true = ap suc (length-row_steps size ns)
    go false = length-row_steps size (n ∷ ns)

pub has_steps : (c : Contents) (v : Variable) → length (steps_of c v) ≡ length (element_dimensions c v)
unfolding steps_of
has_steps c v = steps_len (record_size c.dimensions c.variables) (element_size c v) (lengths c.dimensions (element_dimensions c v)) ∙ length_of_map c.dimensions (element_dimensions c v)

-- ---- sizes

plain_size : (c : Contents) (v : Variable) → is_char v ≡ false → element_size c v ≡ size_of v.external_type
unfolding element_size has_texts
plain_size c v e = go (is_char v) (has_single_bytes (lengths c.dimensions v.dimensions)) e
  where
    go : (b s : Bool) → b ≡ false → cond (b && not s) (length_at c.dimensions (slice_index v.dimensions (length v.dimensions - 1))) (size_of v.external_type) ≡ size_of v.external_type
    go true s q = absurd cc
    go false s q = refl

type_size : (t : ExternalType) → (1 ≤ size_of t) × (size_of t ≤ 8)
type_size Byte = (omega arith, omega arith)
type_size Char = (omega arith, omega arith)
type_size Short = (omega arith, omega arith)
type_size Int = (omega arith, omega arith)
type_size Float = (omega arith, omega arith)
type_size Double = (omega arith, omega arith)
type_size UByte = (omega arith, omega arith)
type_size UShort = (omega arith, omega arith)
type_size UInt = (omega arith, omega arith)
type_size Int64 = (omega arith, omega arith)
type_size UInt64 = (omega arith, omega arith)

product_positive : (ns : List ℕ) → ArePositive ns → 1 ≤ product ns
product_positive [] h = omega arith
product_positive (n ∷ ns) h =
    let one : 1 ≤ n = omega (arith, h.0) in
    let more : 1 ≤ product ns = product_positive ns h.1 in
    let both : n * 1 ≤ n * product ns = mul-le-mul_left n more in omega (arith, one, both)

some_size : (c : Contents) (v : Variable) → 1 ≤ part c.dimensions v.dimensions v.external_type → 0 < element_size c v
some_size c v some = go (element_size c v) (element_part c v)
  where
    go : (n : ℕ) → product (inner (lengths c.dimensions (element_dimensions c v))) * n ≡ part c.dimensions v.dimensions v.external_type → 0 < n
    go zero e = absurd (none e)
      where
        none : product (inner (lengths c.dimensions (element_dimensions c v))) * 0 ≡ part c.dimensions v.dimensions v.external_type → ⊥
        none q = omega (arith, q, some)
    go (suc n) e = omega arith

some_part : (c : Contents) (before : List Variable) (v : Variable) → IsVariable c.dimensions before v → 1 ≤ part c.dimensions v.dimensions v.external_type
unfolding part
some_part c before v h =
    let p = product (inner (lengths c.dimensions v.dimensions)) in
    let one : 1 ≤ p = product_positive (inner (lengths c.dimensions v.dimensions)) (inner_positive c.dimensions v.dimensions h.ids) in
    let both : p * 1 ≤ p * size_of v.external_type = mul-le-mul_left p (type_size v.external_type).0 in omega (arith, one, both)

turn_size : (c : Contents) (before vs : List Variable) (k : ℕ) (v : Variable) → InTurn (IsVariable c.dimensions) before vs → slice_get vs k ≡ Some v → 0 < element_size c v
unfolding InTurn
turn_size c before [] k v h at = absurd cc
turn_size c before (w ∷ vs) zero v h at = subst (λ x. 0 < element_size c x) (some_is w v at) (some_size c w (some_part c before w h.0))
  where
    some_is : (x y : Variable) → Path (Option Variable) (Some x) (Some y) → x ≡ y
    some_is x y q = cc
turn_size c before (w ∷ vs) (suc k) v h at = turn_size c (before ++ w ∷ []) vs k v h.1 at

-- ---- leaves are offered

abbrev pub IsTold : Contents → Option ℕ → Type 0
IsTold c o = (k : ℕ) (v : Variable) → o ≡ Some k → slice_get c.variables k ≡ Some v → is_offered c v ≡ true

coordinate_told : (c : Contents) (i : ℕ) → IsTold c (coordinate_at c i)
coordinate_told c i k v e at =
    let f = coordinate_found c i (ap is_some e) in
    let same : Path (Option Variable) (Some f.0) (Some v) = sym f.1 ∙ ap (option_and_then (slice_get c.variables)) e ∙ at in
    subst (λ w. is_offered c w ≡ true) (some_is f.0 v same) (own_offered c f.0 i f.2.1)
  where
    some_is : (x y : Variable) → Path (Option Variable) (Some x) (Some y) → x ≡ y
    some_is x y q = cc

coordinates_told : (c : Contents) (ids : List ℕ) → AllByRecursion (IsTold c) (map (coordinate_at c) ids)
coordinates_told c [] = tt
coordinates_told c (i ∷ ids) = (coordinate_told c i, coordinates_told c ids)

own_told : (c : Contents) (k : ℕ) (v : Variable) → slice_get c.variables k ≡ Some v → is_offered c v ≡ true → IsTold c (Some k)
own_told c k v at told l w e at' =
    let number : k ≡ l = cc in
    let same : v ≡ w = some_is v w (sym at ∙ ap (slice_get c.variables) number ∙ at') in
    subst (λ x. is_offered c x ≡ true) same told
  where
    some_is : (x y : Variable) → Path (Option Variable) (Some x) (Some y) → x ≡ y
    some_is x y q = cc

both_told : (c : Contents) (xs ys : List (Option ℕ)) → AllByRecursion (IsTold c) xs → AllByRecursion (IsTold c) ys → AllByRecursion (IsTold c) (xs ++ ys)
both_told c [] ys h k = k
both_told c (x ∷ xs) ys h k = (h.0, both_told c xs ys h.1 k)

none_told : (c : Contents) → IsTold c None
none_told c k v e at = absurd cc

leaves_told : (c : Contents) (before vs : List Variable) (k : ℕ) → c.variables ≡ before ++ vs → length before ≡ k → AllByRecursion (IsTold c) (leaves_from c k vs)
unfolding leaves_from
leaves_told c before [] k whole len = tt
leaves_told c before (v ∷ vs) k whole len =
    let later : c.variables ≡ (before ++ v ∷ []) ++ vs = whole ∙ sym (append_assoc before (v ∷ []) vs) in
    let next : length (before ++ v ∷ []) ≡ k + 1 = omega (arith, len, length-append before (v ∷ [])) in
    let at : slice_get c.variables k ≡ Some v = ap (λ xs. slice_get xs k) whole ∙ ap (slice_get (before ++ v ∷ vs)) (sym len) ∙ at_front before vs v in
    both_told c (cond (is_offered c v) (leaves_of c k v) []) (leaves_from c (k + 1) vs) (here (is_offered c v) refl (is_grid c v) at) (leaves_told c (before ++ v ∷ []) vs (k + 1) later next)
  where
    here : (b : Bool) → is_offered c v ≡ b → (g : Bool) → slice_get c.variables k ≡ Some v → AllByRecursion (IsTold c) (cond b (cond g (None ∷ Some k ∷ map (coordinate_at c) v.dimensions) (Some k ∷ [])) [])
    here true e true at = (none_told c, (own_told c k v at e, coordinates_told c v.dimensions))
    here true e false at = (own_told c k v at e, tt)
    here false e g at = tt

told_at : (c : Contents) (ls : List (Option ℕ)) (m : ℕ) → AllByRecursion (IsTold c) ls → IsTold c (option_and_then (λ leaf. leaf) (slice_get ls m))
told_at c [] m h = none_told c
told_at c (l ∷ ls) zero h = h.0
told_at c (l ∷ ls) (suc m) h = told_at c ls m h.1

told_in : (c : Contents) (ls : List (Option ℕ)) (n : ℕ) → AllByRecursion (IsTold c) ls → IsTold c (leaf_in ls n)
told_in c ls n h = go (eqb n 0)
  where
    go : (b : Bool) → IsTold c (cond b None (option_and_then (λ leaf. leaf) (slice_get ls (n - 1))))
    go true = none_told c
    go false = told_at c ls (n - 1) h

-- the variable of a leaf is offered
pub leaf_told : (c : Contents) (leaf : ℕ) → IsTold c (leaf_in (leaves_from c 0 c.variables) leaf)
leaf_told c leaf = told_in c (leaves_from c 0 c.variables) leaf (leaves_told c [] c.variables 0 refl refl)

pub leaf_offered : (c : Contents) (leaf : ℕ) (v : Variable) → leaf_variable c leaf ≡ Some v → is_offered c v ≡ true
unfolding leaf_variable
leaf_offered c leaf v e = go (leaf_in (leaves_from c 0 c.variables) leaf) (leaf_told c leaf) e
  where
    go : (found : Option ℕ) → IsTold c found → option_and_then (slice_get c.variables) found ≡ Some v → is_offered c v ≡ true
    go None told q = absurd cc
    go (Some k) told q = told k v refl q

-- ---- the layout of a leaf

shaped : (c : Contents) (k : ℕ) (v : Variable) → IsSound c → slice_get c.variables k ≡ Some v → element_size c v ≤ 65536 → IsShaped c v (layout_of c v)
shaped c k v h at few = record {
  steps = has_steps c v;
  some = turn_size c [] c.variables k v h.variables at;
  few = few;
  typed = plain_size c v;
}

pub leaf_shaped : (c : Contents) (leaf : ℕ) → IsSound c → (o : Option Layout) → o ≡ option_map (layout_of c) (leaf_variable c leaf) → LeafIsShaped c leaf o
unfolding leaf_variable LeafIsShaped
leaf_shaped c leaf h o is = go (leaf_in (leaves_from c 0 c.variables) leaf) refl (leaf_told c leaf) is
  where
    go : (found : Option ℕ) → leaf_in (leaves_from c 0 c.variables) leaf ≡ found → IsTold c found → o ≡ option_map (layout_of c) (option_and_then (slice_get c.variables) found)
        → MatchOption o (Unit {0}) (λ l. (v : Variable) × (option_and_then (slice_get c.variables) (leaf_in (leaves_from c 0 c.variables) leaf) ≡ Some v) × IsShaped c v l)
    go None e told q = rw q tt
    go (Some k) e told q = at (slice_get c.variables k) refl q
      where
        at : (x : Option Variable) → slice_get c.variables k ≡ x → o ≡ option_map (layout_of c) x
            → MatchOption o (Unit {0}) (λ l. (v : Variable) × (option_and_then (slice_get c.variables) (leaf_in (leaves_from c 0 c.variables) leaf) ≡ Some v) × IsShaped c v l)
        at None x q = rw q tt
        at (Some v) x q = rw q (v, ap (option_and_then (slice_get c.variables)) e ∙ x, shaped c k v h x (offered_size c v (told k v refl x)))
