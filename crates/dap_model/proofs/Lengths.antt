-- The length of the XDR of an array of numbers.
use Rattle.std.proofs.Common.{◌≡◌, ℕ, ◌+◌, ◌-◌, ◌*◌, ◌%◌, List, [], ◌∷◌, ◌++◌, length, map, All, refl, ap, ◌∙◌, sym, arith, length-append, append-nil}
use Rattle.std.proofs.lemmas.List.{length-map, length-replicate}
use Rattle.std.specs.Bool.{⊤}
use Rattle.std.specs.List.{flat_map}
use Rattle.dap_types.specs.Model.{Tree, product}
use Rattle.dap_types.specs.declared.declarations.BaseType.{BaseType}
use Rattle.dap_types.specs.declared.declarations.BaseType.TheVariants.{Byte, Int16, UInt16, Int32, UInt32, Float32, Float64, Text, Url}
use Rattle.dap_types.specs.declared.values.Value.{Value}
use Rattle.dap_types.specs.declared.values.Value.TheVariants as values
use Rattle.dap_model.proofs.Values.{all_first, all_rest, values_of_fit, length-values_in, packed-bytes, bytes_of-append}
use Rattle.dap_model.specs.Fits.{IsOf, FitsArray, values_in}
use Rattle.dap_model.specs.Laws.{IsNumber, element_width}
use Rattle.dap_model.specs.Xdr.{Field, count, packed, filler, zeros, byte_of, field_bytes, bytes_of, value_fields, array_fields, padded}

-- types whose numbers stand in words of their own
abbrev IsWide : BaseType → Type 0
IsWide Byte = ⊥
IsWide Text = ⊥
IsWide Url = ⊥
IsWide base = ⊤

-- a number's own bytes
wide : (base : BaseType) (v : Value) → IsWide base → IsOf base v → length (bytes_of (value_fields base v)) ≡ element_width base
unfolding bytes_of field_bytes
wide Int16 (values.Whole z) is_wide is = refl
wide UInt16 (values.Whole z) is_wide is = refl
wide Int32 (values.Whole z) is_wide is = refl
wide UInt32 (values.Whole z) is_wide is = refl
wide Float32 (values.Bits32 n) is_wide is = refl
wide Float64 (values.Bits64 n) is_wide is = refl
wide Byte v is_wide is = absurd is_wide
wide Text v is_wide is = absurd is_wide
wide Url v is_wide is = absurd is_wide
wide base v is_wide is = absurd is

length-bytes_of-append : (fs gs : List Field) → length (bytes_of (fs ++ gs)) ≡ length (bytes_of fs) + length (bytes_of gs)
length-bytes_of-append fs gs = ap length (bytes_of-append fs gs) ∙ length-append (bytes_of fs) (bytes_of gs)

no_bytes : length (bytes_of []) ≡ 0
unfolding bytes_of
no_bytes = refl

all_wide : (base : BaseType) (vs : List Value) → IsWide base → All (IsOf base) vs → length (bytes_of (flat_map (value_fields base) vs)) ≡ length vs * element_width base
all_wide base [] wide' all = omega (arith, no_bytes)
all_wide base (v ∷ vs) wide' all =
    omega (arith, length-bytes_of-append (value_fields base v) (flat_map (value_fields base) vs), wide base v wide' (all_first (IsOf base) v vs all), all_wide base vs wide' (all_rest (IsOf base) v vs all))

-- two counts come before
counted_twice : (n : ℕ) (fs : List Field) → length (bytes_of (count n ∷ count n ∷ fs)) ≡ 8 + length (bytes_of fs)
unfolding bytes_of field_bytes
counted_twice n fs = omega arith

four : (n : ℕ) → padded (n * 4) ≡ n * 4
four n = omega arith

eight : (n : ℕ) → padded (n * 8) ≡ n * 8
eight n = omega arith

words_length : (base : BaseType) (vs : List Value) → IsWide base → All (IsOf base) vs → padded (length vs * element_width base) ≡ length vs * element_width base
    → length (bytes_of (count (length vs) ∷ count (length vs) ∷ flat_map (value_fields base) vs)) ≡ 8 + padded (length vs * element_width base)
words_length base vs wide' all full = counted_twice (length vs) (flat_map (value_fields base) vs) ∙ ap (λ n. 8 + n) (all_wide base vs wide' all ∙ sym full)

filler_length : (n : ℕ) → length (bytes_of (filler n ∷ [])) ≡ 3 - (n + 3) % 4
unfolding bytes_of field_bytes
filler_length n = ap length (append-nil (zeros n)) ∙ length-replicate (3 - (n + 3) % 4) 0

bytes_length : (vs : List Value) → length (bytes_of (count (length vs) ∷ count (length vs) ∷ map packed vs ++ filler (length vs) ∷ [])) ≡ 8 + padded (length vs * 1)
bytes_length vs =
    let packed_length : length (bytes_of (map packed vs)) ≡ length vs = ap length (packed-bytes vs) ∙ length-map vs byte_of in
    let one : length vs * 1 ≡ length vs = omega arith in
    let both : length (bytes_of (map packed vs ++ filler (length vs) ∷ [])) ≡ padded (length vs) = omega (arith, length-bytes_of-append (map packed vs) (filler (length vs) ∷ []), packed_length, filler_length (length vs)) in
    counted_twice (length vs) (map packed vs ++ filler (length vs) ∷ []) ∙ ap (λ n. 8 + n) both ∙ ap (λ n. 8 + padded n) (sym one)

array_length : (base : BaseType) (vs : List Value) → IsNumber base → All (IsOf base) vs → length (bytes_of (array_fields base vs)) ≡ 8 + padded (length vs * element_width base)
array_length Byte vs is all = bytes_length vs
array_length Int16 vs is all = words_length Int16 vs tt all (four (length vs))
array_length UInt16 vs is all = words_length UInt16 vs tt all (four (length vs))
array_length Int32 vs is all = words_length Int32 vs tt all (four (length vs))
array_length UInt32 vs is all = words_length UInt32 vs tt all (four (length vs))
array_length Float32 vs is all = words_length Float32 vs tt all (four (length vs))
array_length Float64 vs is all = words_length Float64 vs tt all (eight (length vs))
array_length Text vs is all = absurd is
array_length Url vs is all = absurd is

pub length-array_fields : (base : BaseType) (ns : List ℕ) (t : Tree) → IsNumber base → FitsArray base ns t → length (bytes_of (array_fields base (values_in t))) ≡ 8 + padded (product ns * element_width base)
length-array_fields base ns t is fit = array_length base (values_in t) is (values_of_fit base ns t fit) ∙ ap (λ n. 8 + padded (n * element_width base)) (length-values_in base ns t fit)
