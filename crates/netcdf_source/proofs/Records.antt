-- The bytes of a record, and the sizes of the variables of a sound header.
use Rattle.std.proofs.Common.{◌≡◌, ℕ, ◌+◌, ◌^◌, ◌<◌, ◌≤◌, Bool, true, false, cond, eqb, List, [], ◌∷◌, ◌++◌, length, get_or, drop, sum_by, refl, sym, subst, append_assoc, arith}
use Rattle.std.specs.Prelude.{All}
use Rattle.std.specs.List.{AllByRecursion}
use Rattle.std.proofs.lemmas.List.{append-nil, drop_all}
use Rattle.std.proofs.lemmas.List.Sums.{sum_by-cons}
use Rattle.std.proofs.lemmas.List.Elements.{All-from_recursion}
use Rattle.plain_lemmas.proofs.Lists.{drop_here}
use Rattle.netcdf_source.specs.Parts.{is_record, part, share, shares, bare, mark, record_size}
use Rattle.netcdf_source.specs.inner.Sound.{InTurn, IsVariable, IsSound, HasSize, HaveSizes}
use Rattle.netcdf_source.specs.declared.header.Contents.{Contents}
use Rattle.netcdf_source.specs.declared.header.Dimension.{Dimension}
use Rattle.netcdf_source.specs.declared.header.Variable.{Variable}
use Rattle.netcdf_source.proofs.Lists.{shares-push}
use Rattle.dap_model.specs.Xdr.{padded}

pub size_at : (dims : List Dimension) (vs : List Variable) → HaveSizes dims vs → All (HasSize dims) vs
unfolding HaveSizes
size_at dims vs h = All-from_recursion (HasSize dims) vs h

-- one variable more
pub sum_next : {X : Type 0} (f : X → ℕ) (xs : List X) (i : ℕ) (x : X) → i < length xs → x ≡ get_or xs i x → sum_by f (drop i xs) ≡ f x + sum_by f (drop (i + 1) xs)
sum_next f xs i x lt e = rw (drop_here xs i x lt e) (sum_by-cons f x (drop (i + 1) xs))

pub shares_next : (dims : List Dimension) (vs : List Variable) (i : ℕ) (v : Variable) → i < length vs → v ≡ get_or vs i v → shares dims (drop i vs) ≡ share dims v.dimensions v.external_type + shares dims (drop (i + 1) vs)
unfolding shares
shares_next dims vs i v lt e = rw (drop_here vs i v lt e) refl

one_or_none : (b : Bool) → cond b 1 0 ≤ 1
one_or_none true = omega arith
one_or_none false = omega arith

pub marks_le : (dims : List Dimension) (vs : List Variable) → sum_by (mark dims) vs ≤ length vs
marks_le dims [] = omega arith
marks_le dims (v ∷ vs) = omega (arith, sum_by-cons (mark dims) v vs, marks_le dims vs, one_or_none (is_record dims v.dimensions))

bare_le : (b : Bool) (n : ℕ) → cond b n 0 ≤ cond b (padded n) 0
bare_le true n = omega arith
bare_le false n = omega arith

pub bares_le : (dims : List Dimension) (vs : List Variable) → sum_by (bare dims) vs ≤ shares dims vs
unfolding shares
bares_le dims [] = omega arith
bares_le dims (v ∷ vs) = omega (arith, sum_by-cons (bare dims) v vs, bares_le dims vs, bare_le (is_record dims v.dimensions) (part dims v.dimensions v.external_type))

-- ---- a sound header

have_sizes : (dims : List Dimension) (before vs : List Variable) → InTurn (IsVariable dims) before vs → AllByRecursion (HasSize dims) vs
unfolding InTurn HasSize
have_sizes dims before [] h = tt
have_sizes dims before (v ∷ vs) h = (h.0.bytes, have_sizes dims (before ++ v ∷ []) vs h.1)

pub sound_sizes : (c : Contents) → IsSound c → HaveSizes c.dimensions c.variables
unfolding HaveSizes
sound_sizes c h = have_sizes c.dimensions [] c.variables h.variables

grown : (b : Bool) (sum s : ℕ) → sum ≤ 2 ^ 62 → (b ≡ true → sum + cond b s 0 ≤ 2 ^ 62) → sum + cond b s 0 ≤ 2 ^ 62
grown true sum s le h = h refl
grown false sum s le h = omega arith

shares_fit : (dims : List Dimension) (before vs : List Variable) → shares dims before ≤ 2 ^ 62 → InTurn (IsVariable dims) before vs → shares dims (before ++ vs) ≤ 2 ^ 62
unfolding InTurn
shares_fit dims before [] le h = subst (λ vs. shares dims vs ≤ 2 ^ 62) (sym (append-nil before)) le
shares_fit dims before (v ∷ vs) le h =
    let more : shares dims (before ++ v ∷ []) ≤ 2 ^ 62 = rw (shares-push dims before v) (grown (is_record dims v.dimensions) (shares dims before) (padded (part dims v.dimensions v.external_type)) le h.0.record_bytes) in
    subst (λ xs. shares dims xs ≤ 2 ^ 62) (append_assoc before (v ∷ []) vs) (shares_fit dims (before ++ v ∷ []) vs more h.1)

pub sound_shares : (c : Contents) → IsSound c → shares c.dimensions c.variables ≤ 2 ^ 62
unfolding shares
sound_shares c h = shares_fit c.dimensions [] c.variables (omega arith) h.variables

-- behind the last variable
pub record_size_is : (dims : List Dimension) (vs : List Variable) (i count bares padding : ℕ) → length vs ≤ i
    → count + sum_by (mark dims) (drop i vs) ≡ sum_by (mark dims) vs → bares + sum_by (bare dims) (drop i vs) ≡ sum_by (bare dims) vs → padding + shares dims (drop i vs) ≡ shares dims vs
    → cond (eqb count 1) bares padding ≡ record_size dims vs
unfolding record_size shares
record_size_is dims vs i count bares padding le a b d =
    let none : drop i vs ≡ [] = drop_all i vs le in
    let x : count ≡ sum_by (mark dims) vs = omega (arith, rw none at a) in
    let y : bares ≡ sum_by (bare dims) vs = omega (arith, rw none at b) in
    let z : padding ≡ shares dims vs = omega (arith, rw none at d) in
    rw (x, y, z) refl
