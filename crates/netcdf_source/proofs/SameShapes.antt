-- Headers with the same dimensions and variables, and the test of it.
use Rattle.std.proofs.Common.{◌≡◌, ℕ, suc, Bool, true, false, ◌&&◌, eqb, List, [], ◌∷◌, length, map, get_or, refl, sym, ap, ◌∙◌}
use Rattle.std.specs.Str.{bytes_eq}
use Rattle.std.proofs.lemmas.Bool.Decides.{Decides-eqb}
use Rattle.std.proofs.lemmas.Bool.{and_from}
use Rattle.netcdf_source.proofs.Trees.{map-same}
use Rattle.plain_lemmas.proofs.Lists.{same_bytes, bytes_itself}
use Rattle.plain_lemmas.proofs.Numbers.{equal_itself}
use Rattle.plain_lemmas.proofs.Truths.{both_true}
use Rattle.netcdf_source.specs.Mapping.{VariableShape, shape_of, HaveSameShape}
use Rattle.netcdf_source.specs.inner.Shapes.{all_same, type_number, same_dimension, same_variable, have_same_shape}
use Rattle.netcdf_source.specs.declared.external_type.ExternalType.{ExternalType}
use Rattle.netcdf_source.specs.declared.external_type.ExternalType.TheVariants.{Byte, Char, Short, Int, Float, Double, UByte, UShort, UInt, Int64, UInt64}
use Rattle.netcdf_source.specs.declared.header.Contents.{Contents}
use Rattle.netcdf_source.specs.declared.header.Dimension.{Dimension}
use Rattle.netcdf_source.specs.declared.header.Variable.{Variable}

-- ---- types

-- the type of a number, as a list
abbrev numbered : ℕ → List ExternalType
numbered n = get_or (([]) ∷ (Byte ∷ []) ∷ (Char ∷ []) ∷ (Short ∷ []) ∷ (Int ∷ []) ∷ (Float ∷ []) ∷ (Double ∷ []) ∷ (UByte ∷ []) ∷ (UShort ∷ []) ∷ (UInt ∷ []) ∷ (Int64 ∷ []) ∷ (UInt64 ∷ []) ∷ []) n []

numbered_is : (t : ExternalType) → numbered (type_number t) ≡ t ∷ []
numbered_is Byte = refl
numbered_is Char = refl
numbered_is Short = refl
numbered_is Int = refl
numbered_is Float = refl
numbered_is Double = refl
numbered_is UByte = refl
numbered_is UShort = refl
numbered_is UInt = refl
numbered_is Int64 = refl
numbered_is UInt64 = refl

same_type : (t u : ExternalType) → type_number t ≡ type_number u → t ≡ u
same_type t u e = one_is t u (sym (numbered_is t) ∙ ap numbered e ∙ numbered_is u)
  where
    one_is : (x y : ExternalType) → Path (List ExternalType) (x ∷ []) (y ∷ []) → x ≡ y
    one_is x y q = cc

-- ---- items

same_number : (m n : ℕ) → eqb m n ≡ true → m ≡ n
same_number m n e = (Decides-eqb m n).0 e

dimension_is : (d e : Dimension) → same_dimension d e ≡ true → d ≡ e
unfolding same_dimension
dimension_is d e h =
    let p = both_true (eqb d.length e.length) (bytes_eq d.name e.name) h in
    let n = same_number d.length e.length p.0 in
    let b = same_bytes d.name e.name p.1 in
    λ i. record { name = b i; length = n i }

dimension_same : (d e : Dimension) → d ≡ e → same_dimension d e ≡ true
unfolding same_dimension
dimension_same d e h = rw h (rw (equal_itself e.length, bytes_itself e.name) refl)

variable_is : (v w : Variable) → same_variable v w ≡ true → shape_of v ≡ shape_of w
unfolding same_variable
variable_is v w h =
    let two = both_true (eqb (type_number v.external_type) (type_number w.external_type) && bytes_eq v.dimensions w.dimensions) (bytes_eq v.name w.name) h in
    let one = both_true (eqb (type_number v.external_type) (type_number w.external_type)) (bytes_eq v.dimensions w.dimensions) two.0 in
    let t = same_type v.external_type w.external_type (same_number _ _ one.0) in
    let d = same_bytes v.dimensions w.dimensions one.1 in
    let n = same_bytes v.name w.name two.1 in
    λ i. record { name = n i; external_type = t i; dimensions = d i }

variable_same : (v w : Variable) → shape_of v ≡ shape_of w → same_variable v w ≡ true
unfolding same_variable
variable_same v w h =
    let t : v.external_type ≡ w.external_type = ap (λ (s : VariableShape). s.external_type) h in
    let d : v.dimensions ≡ w.dimensions = ap (λ (s : VariableShape). s.dimensions) h in
    let n : v.name ≡ w.name = ap (λ (s : VariableShape). s.name) h in
    rw (t, d, n) (rw (equal_itself (type_number w.external_type), bytes_itself w.dimensions, bytes_itself w.name) refl)

-- ---- lists

lists_are : {X Y : Type 0} (same : X → X → Bool) (f : X → Y) → ((x y : X) → same x y ≡ true → f x ≡ f y) → (xs ys : List X) → all_same same xs ys ≡ true → map f xs ≡ map f ys
unfolding all_same
lists_are same f one [] [] h = refl
lists_are same f one [] (y ∷ ys) h = absurd cc
lists_are same f one (x ∷ xs) [] h = absurd cc
lists_are same f one (x ∷ xs) (y ∷ ys) h =
    let p = both_true (same x y) (all_same same xs ys) h in
    let a = one x y p.0 in
    let b = lists_are same f one xs ys p.1 in
    λ i. a i ∷ b i

lists_same : {X Y : Type 0} (same : X → X → Bool) (f : X → Y) → ((x y : X) → f x ≡ f y → same x y ≡ true) → (xs ys : List X) → map f xs ≡ map f ys → all_same same xs ys ≡ true
unfolding all_same
lists_same same f one [] [] h = refl
lists_same same f one [] (y ∷ ys) h = absurd cc
lists_same same f one (x ∷ xs) [] h = absurd cc
lists_same same f one (x ∷ xs) (y ∷ ys) h = and_from (same x y) (all_same same xs ys) (one x y cc) (lists_same same f one xs ys cc)

pub shapes_are : (c d : Contents) → have_same_shape c d ≡ true → HaveSameShape c d
unfolding have_same_shape
shapes_are c d h =
    let p = both_true (all_same same_dimension c.dimensions d.dimensions) (all_same same_variable c.variables d.variables) h in
    record {
      dimensions = sym (map-same c.dimensions) ∙ lists_are same_dimension (λ x. x) dimension_is c.dimensions d.dimensions p.0 ∙ map-same d.dimensions;
      variables = lists_are same_variable shape_of variable_is c.variables d.variables p.1;
    }

pub shapes_same : (c d : Contents) → HaveSameShape c d → have_same_shape c d ≡ true
unfolding have_same_shape
shapes_same c d h =
    and_from (all_same same_dimension c.dimensions d.dimensions) (all_same same_variable c.variables d.variables)
    (lists_same same_dimension (λ x. x) dimension_same c.dimensions d.dimensions (map-same c.dimensions ∙ h.dimensions ∙ sym (map-same d.dimensions)))
    (lists_same same_variable shape_of variable_same c.variables d.variables h.variables)

-- ---- along the lists

-- lists of other lengths are not the same
pub other_length : {X : Type 0} (same : X → X → Bool) (xs ys : List X) → (length xs ≡ length ys → ⊥) → all_same same xs ys ≡ false
unfolding all_same
other_length same [] [] h = absurd (h refl)
other_length same [] (y ∷ ys) h = refl
other_length same (x ∷ xs) [] h = refl
other_length same (x ∷ xs) (y ∷ ys) h = right (same x y) (all_same same xs ys) (other_length same xs ys (λ e. h (ap suc e)))
  where
    right : (a b : Bool) → b ≡ false → (a && b) ≡ false
    right true b e = e
    right false b e = refl
