-- Numbers of an array, one after the other.
use Rattle.std.proofs.Common.{◌≡◌, ℕ, ℤ, zero, suc, pos, ◌+◌, ◌*◌, ◌/◌, min, ◌^◌, ◌<◌, ◌≤◌, List, [], ◌∷◌, ◌++◌, length, length-append, length-drop, take, drop, get_or, All, Some, refl, ap, ◌∙◌, sym, subst, arith, append_assoc, append-nil, take-append-drop}
use Rattle.std.proofs.lemmas.Grind.{flat_map-append}
use Rattle.std.proofs.lemmas.List.{drop-drop}
use Rattle.std.proofs.lemmas.List.Elements.{All-drop, All-nil, All-push, All-take}
use Rattle.std.proofs.lemmas.Nat.{be_bytes_4, be_bytes_8}
use Rattle.std.specs.Int.{from_be_bytes, to_be_bytes, cast_signed, w32, w64}
use mir.Val.{to_z, of_z}
use Rattle.dap_types.specs.declared.declarations.BaseType.{BaseType}
use Rattle.dap_types.specs.declared.declarations.BaseType.TheVariants.{Byte, Int16, UInt16, Int32, UInt32, Float32, Float64, Text, Url}
use Rattle.dap_types.specs.declared.values.Value.{Value}
use Rattle.dap_types.specs.declared.values.Value.TheVariants as values
use Rattle.dap_model.proofs.Values.{all_first, all_rest}
use Rattle.dap_model.specs.Fits.{IsOf}
use Rattle.dap_model.specs.Laws.{IsNumber, element_width}
use Rattle.dap_model.specs.Xdr.{SpellsField, number, word}
use Rattle.xdr_fields.proofs.Decided.{whole_good}
use Rattle.xdr_fields.specs.Wants.{a_byte, a_value}
use Rattle.xdr_fields.specs.inner.Words.{whole_in}
use Rattle.xdr_decode.proofs.Judging.{double_good, float_good, packed_good}
use Rattle.xdr_decode.proofs.Stopping.{spelt_none, spelt_one, spelt_then}
use Rattle.xdr_decode.proofs.Valued.{byte_taken, double_taken, single_taken}
use Rattle.xdr_decode.specs.declared.field.Token.TheVariants as token
use Rattle.xdr_decode.specs.inner.Asked.{IsGood}
use Rattle.xdr_decode.specs.inner.Runs.{Begins, IsShort}
use Rattle.xdr_decode.specs.inner.Taken.{Spelt, element_fields, elements_fields}

abbrev pub AreBytes : List ℕ → Type 0
AreBytes bs = All (λ b. b < 256) bs

byte_at : (bs : List ℕ) → AreBytes bs → (i : ℕ) → get_or bs i 0 < 256
byte_at [] all i = omega arith
byte_at (b ∷ bs) all zero = all_first (λ c. c < 256) b bs all
byte_at (b ∷ bs) all (suc i) = byte_at bs (all_rest (λ c. c < 256) b bs all) i

-- one number at the front of some bytes
pub record BeginsOne (base : BaseType) (bytes rest : List ℕ) : Type 0 where
  pub value : Value
  pub is_of : IsOf base value
  pub spelt : Spelt (element_fields base value) bytes rest
  pub long : length bytes ≡ element_width base + length rest

-- any bytes are a number
word_of : (a b c d : ℕ) → AreBytes (a ∷ b ∷ c ∷ d ∷ []) → (k : ℕ) × (k < 2 ^ 32) × (a ∷ b ∷ c ∷ d ∷ [] ≡ word k)
word_of a b c d all =
    let own : List ℕ = a ∷ b ∷ c ∷ d ∷ [] in
    let each = byte_at own all in
    let a' = each 0 in let b' = each 1 in let c' = each 2 in let d' = each 3 in
    (from_be_bytes w32 own, omega (arith, a', b', c', d'), sym (be_bytes_4 own (from_be_bytes w32 own) refl each refl))

double_of : (a b c d e f g h : ℕ) → AreBytes (a ∷ b ∷ c ∷ d ∷ e ∷ f ∷ g ∷ h ∷ []) → (k : ℕ) × (k < 2 ^ 64) × (a ∷ b ∷ c ∷ d ∷ e ∷ f ∷ g ∷ h ∷ [] ≡ to_be_bytes w64 k)
double_of a b c d e f g h all =
    let own : List ℕ = a ∷ b ∷ c ∷ d ∷ e ∷ f ∷ g ∷ h ∷ [] in
    let each = byte_at own all in
    let a' = each 0 in let b' = each 1 in let c' = each 2 in let d' = each 3 in let e' = each 4 in let f' = each 5 in let g' = each 6 in let h' = each 7 in
    (from_be_bytes w64 own, omega (arith, a', b', c', d', e', f', g', h'), sym (be_bytes_8 own (from_be_bytes w64 own) refl each refl))

whole_begins : (base : BaseType) (k : ℕ) (z : ℤ) (own rest : List ℕ) → k < 2 ^ 32 → own ≡ word k → whole_in base k ≡ Some z → IsOf base (values.Whole z) × Spelt (number base (values.Whole z) ∷ []) (own ++ rest) rest
whole_begins base k z own rest small is read =
    let good = whole_good base k z small read in
    (good.0, spelt_one (number base (values.Whole z)) own rest (subst (λ l. SpellsField (number base (values.Whole z)) l) (sym is) good.1))

-- by its four bytes
four : (base : BaseType) (a b c d : ℕ) (rest : List ℕ) → element_width base ≡ 4 → IsNumber base → ¬ IsShort base → AreBytes (a ∷ b ∷ c ∷ d ∷ []) → BeginsOne base (a ∷ b ∷ c ∷ d ∷ rest) rest
four Int32 a b c d rest wide num long all =
    let (k, small, is) = word_of a b c d all in
    let one = whole_begins Int32 k (cast_signed w32 k) (a ∷ b ∷ c ∷ d ∷ []) rest small is refl in
    record { value = values.Whole (cast_signed w32 k); is_of = one.0; spelt = one.1; long = omega arith }
four UInt32 a b c d rest wide num long all =
    let (k, small, is) = word_of a b c d all in
    let one = whole_begins UInt32 k (pos k) (a ∷ b ∷ c ∷ d ∷ []) rest small is refl in
    record { value = values.Whole (pos k); is_of = one.0; spelt = one.1; long = omega arith }
four Float32 a b c d rest wide num long all =
    let own : List ℕ = a ∷ b ∷ c ∷ d ∷ [] in
    let (k, small, is) = word_of a b c d all in
    let good = subst (λ l. IsGood (a_value [] Float32) l (token.Bits32 k)) (sym is) (float_good k (a_value [] Float32) small refl) in
    let one = single_taken [] Float32 k (own ++ rest) rest (own, refl, good) in
    record { value = values.Bits32 k; is_of = one.0; spelt = one.1; long = omega arith }
four Int16 a b c d rest wide num long all = absurd (long tt)
four UInt16 a b c d rest wide num long all = absurd (long tt)
four Byte a b c d rest wide num long all = absurd (omega (arith, wide))
four Float64 a b c d rest wide num long all = absurd (omega (arith, wide))
four Text a b c d rest wide num long all = absurd num
four Url a b c d rest wide num long all = absurd num

eight : (a b c d e f g h : ℕ) (rest : List ℕ) → AreBytes (a ∷ b ∷ c ∷ d ∷ e ∷ f ∷ g ∷ h ∷ []) → BeginsOne Float64 (a ∷ b ∷ c ∷ d ∷ e ∷ f ∷ g ∷ h ∷ rest) rest
eight a b c d e f g h rest all =
    let own : List ℕ = a ∷ b ∷ c ∷ d ∷ e ∷ f ∷ g ∷ h ∷ [] in
    let (k, small, is) = double_of a b c d e f g h all in
    let one = double_taken [] Float64 k (own ++ rest) rest (own, refl, double_good own k (a_value [] Float64) is small refl) in
    record { value = values.Bits64 k; is_of = one.0; spelt = one.1; long = omega arith }

single : (a : ℕ) (rest : List ℕ) → a < 256 → BeginsOne Byte (a ∷ rest) rest
single a rest small =
    let z : ℤ = to_z w64 (of_z w64 (pos a)) in
    let one = byte_taken [] z (a ∷ rest) rest (a ∷ [], refl, packed_good (a ∷ []) a (a_byte []) refl small tt) in
    record { value = values.Whole z; is_of = one.0; spelt = one.1; long = omega arith }

single_of : (bytes : List ℕ) → AreBytes bytes → 1 ≤ length bytes → BeginsOne Byte bytes (drop 1 bytes)
single_of (a ∷ rest) all le = single a rest (all_first (λ b. b < 256) a rest all)
single_of [] all le = absurd (omega (arith, le))

four_of : (base : BaseType) (bytes : List ℕ) → element_width base ≡ 4 → IsNumber base → ¬ IsShort base → AreBytes bytes → 4 ≤ length bytes → BeginsOne base bytes (drop 4 bytes)
four_of base (a ∷ b ∷ c ∷ d ∷ rest) wide num long all le = four base a b c d rest wide num long (All-take (λ x. x < 256) 4 (a ∷ b ∷ c ∷ d ∷ rest) all)
four_of base bytes wide num long all le = absurd (omega (arith, le))

eight_of : (bytes : List ℕ) → AreBytes bytes → 8 ≤ length bytes → BeginsOne Float64 bytes (drop 8 bytes)
eight_of (a ∷ b ∷ c ∷ d ∷ e ∷ f ∷ g ∷ h ∷ rest) all le = eight a b c d e f g h rest (All-take (λ x. x < 256) 8 (a ∷ b ∷ c ∷ d ∷ e ∷ f ∷ g ∷ h ∷ rest) all)
eight_of bytes all le = absurd (omega (arith, le))

one_begins : (base : BaseType) (bytes : List ℕ) → IsNumber base → ¬ IsShort base → AreBytes bytes → element_width base ≤ length bytes → BeginsOne base bytes (drop (element_width base) bytes)
one_begins Byte bytes num long all le = single_of bytes all le
one_begins Float64 bytes num long all le = eight_of bytes all le
one_begins Int32 bytes num long all le = four_of Int32 bytes refl num long all le
one_begins UInt32 bytes num long all le = four_of UInt32 bytes refl num long all le
one_begins Float32 bytes num long all le = four_of Float32 bytes refl num long all le
one_begins Int16 bytes num long all le = absurd (long tt)
one_begins UInt16 bytes num long all le = absurd (long tt)
one_begins Text bytes num long all le = absurd num
one_begins Url bytes num long all le = absurd num

-- a good word is an integer of 16 bits
short_fields : (base : BaseType) (z : ℤ) (a b : List ℕ) → IsShort base → Spelt (number base (values.Whole z) ∷ []) a b → Spelt (element_fields base (values.Whole z)) a b
short_fields Int16 z a b short spelt = spelt
short_fields UInt16 z a b short spelt = spelt
short_fields base z a b short spelt = absurd short

short_wide : (base : BaseType) → IsShort base → element_width base ≡ 4
short_wide Int16 short = refl
short_wide UInt16 short = refl
short_wide base short = absurd short

pub word_begins : (base : BaseType) (k : ℕ) (z : ℤ) (rest : List ℕ) → IsShort base → k < 2 ^ 32 → take 4 rest ≡ word k → whole_in base k ≡ Some z → 4 ≤ length rest → BeginsOne base rest (drop 4 rest)
word_begins base k z rest short small is read le =
    let one = whole_begins base k z (take 4 rest) (drop 4 rest) small is read in
    record {
      value = values.Whole z;
      is_of = one.0;
      spelt = short_fields base z rest (drop 4 rest) short (subst (λ l. Spelt (number base (values.Whole z) ∷ []) l (drop 4 rest)) (take-append-drop 4 rest) one.1);
      long = omega (arith, length-drop 4 rest, le, short_wide base short);
    }

-- one after the other
pub begins_none : (base : BaseType) (bytes rest : List ℕ) → bytes ≡ rest → Begins base 0 bytes rest
begins_none base bytes rest is =
    record { values = []; are_many = refl; are_of = All-nil (IsOf base); spelt = subst (Spelt [] bytes) is (spelt_none bytes); long = omega (arith, ap length is) }

fields_push : (base : BaseType) (vs : List Value) (v : Value) → elements_fields base vs ++ element_fields base v ≡ elements_fields base (vs ++ v ∷ [])
fields_push base vs v = sym (flat_map-append (element_fields base) vs (v ∷ []) ∙ ap (λ l. elements_fields base vs ++ l) (append-nil (element_fields base v)))

pub begins_push : (base : BaseType) (n m : ℕ) (bytes mid rest : List ℕ) → m ≡ n + 1 → Begins base n bytes mid → BeginsOne base mid rest → Begins base m bytes rest
begins_push base n m bytes mid rest is b one =
    record {
      values = b.values ++ one.value ∷ [];
      are_many = omega (arith, length-append b.values (one.value ∷ []), b.are_many, is);
      are_of = All-push (IsOf base) b.values one.value b.are_of one.is_of;
      spelt = subst (λ fs. Spelt fs bytes rest) (fields_push base b.values one.value)
          (spelt_then (elements_fields base b.values) (element_fields base one.value) bytes mid rest b.spelt one.spelt);
      long = b.long ∙ omega (arith, one.long, ap (λ k. k * element_width base) is);
    }

-- any bytes are numbers of the types that have no bad one
pub any_begins : (base : BaseType) (n : ℕ) (bytes : List ℕ) → IsNumber base → ¬ IsShort base → AreBytes bytes → n * element_width base ≤ length bytes → Begins base n bytes (drop (n * element_width base) bytes)
any_begins base zero bytes num long all le =
    let none : 0 ≡ 0 * element_width base = omega arith in
    begins_none base bytes (drop (0 * element_width base) bytes) (ap (λ k. drop k bytes) none)
any_begins base (suc n) bytes num long all le =
    let w : ℕ = element_width base in
    let more : suc n * w ≡ n * w + w = omega arith in
    let before : Begins base n bytes (drop (n * w) bytes) = any_begins base n bytes num long all (omega (arith, le, more)) in
    let one : BeginsOne base (drop (n * w) bytes) (drop w (drop (n * w) bytes)) =
    one_begins base (drop (n * w) bytes) num long (All-drop (λ b. b < 256) (n * w) bytes all) (omega (arith, le, more, length-drop (n * w) bytes)) in
    begins_push base n (suc n) bytes (drop (n * w) bytes) (drop (suc n * w) bytes) (omega arith) before
    (subst (BeginsOne base (drop (n * w) bytes)) (drop-drop w (n * w) bytes ∙ ap (λ k. drop k bytes) (sym more)) one)

-- and others behind them
pub begins_more : (base : BaseType) (n : ℕ) (a b rest : List ℕ) → Begins base n a rest → Begins base n (a ++ b) (rest ++ b)
begins_more base n a b rest is =
    let (own, parts, good) = is.spelt in
    record {
      values = is.values;
      are_many = is.are_many;
      are_of = is.are_of;
      spelt = (own, ap (λ l. l ++ b) parts ∙ append_assoc own rest b, good);
      long = omega (arith, is.long, length-append a b, length-append rest b);
    }

-- of words in a front no more are good than stand there
pub short_within : (base : BaseType) (n count : ℕ) (a rest : List ℕ) → IsShort base → Begins base n a rest → length a ≤ 4 * count → n ≤ count
short_within base n count a rest short is le = omega (arith, is.long, le, ap (λ w. n * w) (short_wide base short))

pub short_few : (base : BaseType) (n : ℕ) (a rest : List ℕ) → IsShort base → Begins base n a rest → n ≤ length a
short_few base n a rest short is = omega (arith, is.long, ap (λ w. n * w) (short_wide base short))

-- so many stand whole in some bytes
pub whole_many : (base : BaseType) (count most len : ℕ) → count ≡ min most (len / element_width base) → count * element_width base ≤ len
whole_many Byte count most len is = omega (arith, is)
whole_many Int16 count most len is = omega (arith, is)
whole_many UInt16 count most len is = omega (arith, is)
whole_many Int32 count most len is = omega (arith, is)
whole_many UInt32 count most len is = omega (arith, is)
whole_many Float32 count most len is = omega (arith, is)
whole_many Float64 count most len is = omega (arith, is)
whole_many Text count most len is = omega (arith, is)
whole_many Url count most len is = omega (arith, is)

pub not_short : (base : BaseType) → ¬ (base ≡ Int16) → ¬ (base ≡ UInt16) → ¬ IsShort base
not_short Int16 one two short = one refl
not_short UInt16 one two short = two refl
not_short base one two short = short

-- the good ones of a front
pub front_begins : (base : BaseType) (n count : ℕ) (bytes : List ℕ) → (rest : List ℕ) × Begins base n (take count bytes) rest → (rest : List ℕ) × Begins base n bytes rest
front_begins base n count bytes (rest, is) =
    (rest ++ drop count bytes, subst (λ l. Begins base n l (rest ++ drop count bytes)) (take-append-drop count bytes) (begins_more base n (take count bytes) (drop count bytes) rest is))
