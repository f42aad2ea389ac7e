-- The bytes of elements of an array.
use Rattle.std.proofs.Common.{◌≡◌, ℕ, ◌+◌, ◌-◌, ◌<◌, ◌≤◌, ◌^◌, ◌*◌, List, [], ◌∷◌, ◌++◌, length, refl, sym, ap, ◌∙◌, arith, length-append, take, All}
use Rattle.std.specs.Prelude.{min}
use Rattle.std.proofs.Math.Nat.{mul-le-mul_left}
use Rattle.std.proofs.Math.Seq.{take-append_seam}
use Rattle.dap_types.specs.Model.{product}
use Rattle.dap_types.specs.declared.declarations.BaseType.{BaseType}
use Rattle.dap_types.specs.declared.declarations.BaseType.TheVariants.{Byte, Int16, UInt16, Int32, UInt32, Float32, Float64, Text, Url}
use Rattle.dap_types.specs.declared.values.Value.{Value}
use Rattle.dap_types.specs.declared.values.Value.TheVariants as values
use Rattle.dap_model.proofs.Values.{all_first, all_rest, bytes_of-append}
use Rattle.dap_model.specs.Laws.{element_width}
use Rattle.dap_model.specs.Fits.{IsOf}
use Rattle.dap_model.specs.Xdr.{bytes_of, field_bytes}
use Rattle.xdr_decode.specs.inner.Taken.{element_fields, elements_fields}
use Rattle.xdr_values.specs.Walked.{StandElements}

pub no_bytes : bytes_of [] ≡ []
unfolding bytes_of
no_bytes = refl

-- the bytes of elements
abbrev pub run : BaseType → List Value → List ℕ
run base vs = bytes_of (elements_fields base vs)

-- a step over elements does what it says
abbrev pub StepsOver : BaseType → ℕ → List ℕ → List ℕ → Type 0
StepsOver base count from to = (vs : List Value) (r : List ℕ) → length vs ≡ count → count * 8 < 2 ^ 64 → StandElements base vs from r → to ≡ r

-- ---- elements of an array of numbers
pub element_long : (base : BaseType) (v : Value) → ¬ (base ≡ Text) → ¬ (base ≡ Url) → IsOf base v → length (bytes_of (element_fields base v)) ≡ element_width base
unfolding bytes_of field_bytes
element_long Byte v a b is = refl
element_long Int16 (values.Whole z) a b is = refl
element_long UInt16 (values.Whole z) a b is = refl
element_long Int32 (values.Whole z) a b is = refl
element_long UInt32 (values.Whole z) a b is = refl
element_long Float32 (values.Bits32 n) a b is = refl
element_long Float64 (values.Bits64 n) a b is = refl
element_long Text v a b is = absurd (a refl)
element_long Url v a b is = absurd (b refl)
element_long base v a b is = absurd is

pub elements_long : (base : BaseType) (vs : List Value) → ¬ (base ≡ Text) → ¬ (base ≡ Url) → All (IsOf base) vs → length (bytes_of (elements_fields base vs)) ≡ length vs * element_width base
elements_long base [] a b all = omega (arith, ap length no_bytes)
elements_long base (v ∷ vs) a b all =
    omega (
      arith,
      ap length (bytes_of-append (element_fields base v) (elements_fields base vs)),
      length-append (bytes_of (element_fields base v)) (bytes_of (elements_fields base vs)),
      element_long base v a b (all_first (IsOf base) v vs all),
      elements_long base vs a b (all_rest (IsOf base) v vs all),
    )

small_width : (base : BaseType) → element_width base ≤ 8
small_width Byte = omega arith
small_width Int16 = omega arith
small_width UInt16 = omega arith
small_width Int32 = omega arith
small_width UInt32 = omega arith
small_width Float32 = omega arith
small_width Float64 = omega arith
small_width Text = omega arith
small_width Url = omega arith

-- the product of their number and their width is exact
pub elements_wide : (base : BaseType) (vs : List Value) (count wide product : ℕ) → ¬ (base ≡ Text) → ¬ (base ≡ Url) → All (IsOf base) vs → length vs ≡ count → count * 8 < 2 ^ 64 → wide ≡ element_width base
    → product ≡ min (count * wide) 18446744073709551615 → length (bytes_of (elements_fields base vs)) ≡ product
elements_wide base vs count wide product a b all long small wide_is product_is =
    let same : count * wide ≡ count * element_width base = ap (λ w. count * w) wide_is in
    let le : count * element_width base ≤ count * 8 = mul-le-mul_left count (small_width base) in
    let total : length (bytes_of (elements_fields base vs)) ≡ count * element_width base = elements_long base vs a b all ∙ ap (λ n. n * element_width base) long in
    omega (arith, same, le, total, product_is, small)

-- what stands before the rest
pub front_is : (bytes own rest left : List ℕ) → bytes ≡ own ++ rest → left ≡ rest → own ≡ take (length bytes - length left) bytes
front_is bytes own rest left is same =
    let at : length bytes - length left ≡ length own = omega (arith, ap length is, ap length same, length-append own rest) in
    sym (ap (λ n. take n bytes) at ∙ ap (λ l. take (length own) l) is ∙ take-append_seam own rest)
