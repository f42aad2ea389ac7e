-- One value that was read, or not.
use Rattle.std.proofs.Common.{◌≡◌, ℕ, ℤ, ◌+◌, ◌<◌, ◌^◌, List, [], ◌∷◌, ◌++◌, length, refl, ap, sym, subst, arith, append-nil, length-append, to_z, of_z, w64}
use Rattle.std.proofs.lemmas.Int.{ints}
use Rattle.dap_model.proofs.Values.{whole_high, whole_low}
use Rattle.dap_types.specs.declared.declarations.BaseType.{BaseType}
use Rattle.dap_types.specs.declared.declarations.BaseType.TheVariants.{Byte, Int16, UInt16, Int32, UInt32, Float32, Float64, Text, Url}
use Rattle.dap_types.specs.declared.declarations.Column.{Column}
use Rattle.dap_types.specs.declared.values.Value.{Value}
use Rattle.dap_types.specs.declared.values.Value.TheVariants as values
use Rattle.dap_model.specs.Fits.{IsOf}
use Rattle.dap_model.specs.Xdr.{Field, number, packed, size, text, padding, mark, value_fields, field_bytes, SpellsField}
use Rattle.xdr_fields.proofs.Judged.{no_steps, one_step}
use Rattle.xdr_fields.specs.Wants.{Want, a_byte, a_padding, a_text, a_value, rows, IsTextType, Steps}
use Rattle.xdr_decode.proofs.Stopping.{spelt_then, stops_behind, stops_short}
use Rattle.reply_faults.specs.declared.bad.Bad.TheVariants.{Cut}
use Rattle.xdr_decode.specs.declared.field.Token.{Token}
use Rattle.xdr_decode.specs.declared.field.Token.TheVariants as token
use Rattle.xdr_decode.specs.declared.values.Stop.{Stop}
use Rattle.xdr_decode.specs.declared.values.Stop.TheVariants.{Wrong}
use Rattle.xdr_decode.specs.inner.Taken.{IsTaken, Spelt, Stops, element_fields, element_want}

spelt_by : (f : Field) (own a b : List ℕ) → a ≡ own ++ b → SpellsField f own → Spelt (f ∷ []) a b
spelt_by f own a b parts spelled = (own, parts, (own, [], sym (append-nil own), spelled, refl))

-- the bytes of a string, and its padding
text_spelt : (own a b : List ℕ) → a ≡ own ++ b → Spelt (text own ∷ []) a b
unfolding field_bytes
text_spelt own a b parts = spelt_by (text own) own a b parts refl

text_step : (own : List ℕ) (n : ℕ) (ws : List Want) → length own ≡ n → Steps (a_text n ∷ ws) (text own ∷ []) ws
text_step own n ws long = one_step (a_text n) ws (text own) [] ws long (no_steps ws)

padding_spelt : (n : ℕ) (t : Token) (a b : List ℕ) → IsTaken (a_padding n) t a b → Spelt (padding n ∷ []) a b
padding_spelt n t a b (own, parts, (padding m, goes, spelled, is)) = spelt_by (padding n) own a b parts (subst (λ k. SpellsField (padding k) own) goes spelled)
padding_spelt n t a b (own, parts, (f, goes, spelled, is)) = absurd goes

pub string_short : (n : ℕ) (a : List ℕ) → length a < n → Stops (a_text n ∷ a_padding n ∷ []) a (Wrong Cut 0)
string_short n a short = stops_short (a_text n) (a_padding n ∷ []) a short

pub string_stop : (n : ℕ) (own a b : List ℕ) (e : Stop) → a ≡ own ++ b → length own ≡ n → Stops (a_padding n ∷ []) b e → Stops (a_text n ∷ a_padding n ∷ []) a e
string_stop n own a b e parts long stop = stops_behind (a_text n ∷ a_padding n ∷ []) (a_padding n ∷ []) (text own ∷ []) a b e (text_spelt own a b parts) (text_step own n (a_padding n ∷ []) long) stop

pub string_read : (n : ℕ) (t : Token) (own bytes a b c : List ℕ) → a ≡ own ++ b → bytes ≡ own → IsTaken (a_padding n) t b c → Spelt (text bytes ∷ padding n ∷ []) a c
string_read n t own bytes a b c parts same taken =
    subst (λ x. Spelt (text x ∷ padding n ∷ []) a c) (sym same) (spelt_then (text own ∷ []) (padding n ∷ []) a b c (text_spelt own a b parts) (padding_spelt n t b c taken))

-- a number
abbrev pub IsNumberRead : BaseType → Value → List ℕ → List ℕ → Type 0
IsNumberRead base v a b = IsOf base v × Spelt (number base v ∷ []) a b

number_by : (c base : BaseType) (v w : Value) (own a b : List ℕ) → a ≡ own ++ b → c ≡ base → IsOf base v → SpellsField (number c v) own → v ≡ w → IsNumberRead base w a b
number_by c base v w own a b parts same is spelled is_w = (
  subst (IsOf base) is_w is,
  spelt_by (number base w) own a b parts (subst (λ y. SpellsField (number base y) own) is_w (subst (λ x. SpellsField (number x v) own) same spelled)),
)

pub whole_taken : (path : List ℕ) (base : BaseType) (z : ℤ) (a b : List ℕ) → IsTaken (a_value path base) (token.Whole z) a b → IsNumberRead base (values.Whole z) a b
whole_taken path base z a b (own, parts, (number c v, goes, spelled, is)) = number_by c base v (values.Whole z) own a b parts goes.0 goes.2 spelled is
whole_taken path base z a b (own, parts, (size n, goes, spelled, is)) = absurd is
whole_taken path base z a b (own, parts, (f, goes, spelled, is)) = absurd goes

pub single_taken : (path : List ℕ) (base : BaseType) (n : ℕ) (a b : List ℕ) → IsTaken (a_value path base) (token.Bits32 n) a b → IsNumberRead base (values.Bits32 n) a b
single_taken path base n a b (own, parts, (number c v, goes, spelled, is)) = number_by c base v (values.Bits32 n) own a b parts goes.0 goes.2 spelled is
single_taken path base n a b (own, parts, (size m, goes, spelled, is)) = absurd is
single_taken path base n a b (own, parts, (f, goes, spelled, is)) = absurd goes

pub double_taken : (path : List ℕ) (base : BaseType) (n : ℕ) (a b : List ℕ) → IsTaken (a_value path base) (token.Bits64 n) a b → IsNumberRead base (values.Bits64 n) a b
double_taken path base n a b (own, parts, (number c v, goes, spelled, is)) = number_by c base v (values.Bits64 n) own a b parts goes.0 goes.2 spelled is
double_taken path base n a b (own, parts, (size m, goes, spelled, is)) = absurd is
double_taken path base n a b (own, parts, (f, goes, spelled, is)) = absurd goes

-- the length of a string
pub size_taken : (path : List ℕ) (base : BaseType) (n : ℕ) (a b : List ℕ) → IsTaken (a_value path base) (token.Size n) a b → IsTextType base × (n < 2 ^ 31) × Spelt (size n ∷ []) a b
size_taken path base n a b (own, parts, (size m, goes, spelled, is)) = (goes.0, subst (λ k. k < 2 ^ 31) (sym is) goes.1, spelt_by (size n) own a b parts (subst (λ k. SpellsField (size k) own) (sym is) spelled))
size_taken path base n a b (own, parts, (number c v, goes, spelled, is)) = absurd is
size_taken path base n a b (own, parts, (f, goes, spelled, is)) = absurd goes

text_fits : (base : BaseType) (bytes : List ℕ) → IsTextType base → length bytes < 2 ^ 31 → IsOf base (values.Text bytes)
text_fits Text bytes txt short = short
text_fits Url bytes txt short = short
text_fits base bytes txt short = absurd txt

pub text_of_size : (path : List ℕ) (base : BaseType) (n : ℕ) (bytes a b : List ℕ) → IsTaken (a_value path base) (token.Size n) a b → length bytes ≡ n → IsOf base (values.Text bytes)
text_of_size path base n bytes a b taken long =
    let (txt, short, spelt) = size_taken path base n a b taken in text_fits base bytes txt (subst (λ k. k < 2 ^ 31) (sym long) short)

pub text_read : (path : List ℕ) (base : BaseType) (n : ℕ) (bytes a b c : List ℕ) → IsTaken (a_value path base) (token.Size n) a b → length bytes ≡ n → Spelt (text bytes ∷ padding n ∷ []) b c
    → Spelt (value_fields base (values.Text bytes)) a c
text_read path base n bytes a b c taken long rest =
    let (txt, short, spelt) = size_taken path base n a b taken in
    subst (λ k. Spelt (size k ∷ text bytes ∷ padding k ∷ []) a c) (sym long) (spelt_then (size n ∷ []) (text bytes ∷ padding n ∷ []) a b c spelt rest)

pub text_stop : (path : List ℕ) (base : BaseType) (n : ℕ) (a b : List ℕ) (e : Stop) → IsTaken (a_value path base) (token.Size n) a b → Stops (a_text n ∷ a_padding n ∷ []) b e → Stops (a_value path base ∷ []) a e
text_stop path base n a b e taken stop =
    let (txt, short, spelt) = size_taken path base n a b taken in
    stops_behind (a_value path base ∷ []) (a_text n ∷ a_padding n ∷ []) (size n ∷ []) a b e spelt
    (one_step (a_value path base) [] (size n) [] (a_text n ∷ a_padding n ∷ []) (txt, short) (no_steps (a_text n ∷ a_padding n ∷ []))) stop

-- no other token is read of a value
abbrev pub IsValueToken : Token → Type 0
IsValueToken token.Count = ⊥
IsValueToken token.Zeros = ⊥
IsValueToken token.Row = ⊥
IsValueToken token.End = ⊥
IsValueToken t = Unit {0}

pub value_token : (path : List ℕ) (base : BaseType) (t : Token) (a b : List ℕ) → IsTaken (a_value path base) t a b → IsValueToken t
value_token path base (token.Whole z) a b taken = tt
value_token path base (token.Bits32 n) a b taken = tt
value_token path base (token.Bits64 n) a b taken = tt
value_token path base (token.Size n) a b taken = tt
value_token path base t a b (own, parts, (number c v, goes, spelled, is)) = absurd is
value_token path base t a b (own, parts, (size m, goes, spelled, is)) = absurd is
value_token path base t a b (own, parts, (f, goes, spelled, is)) = absurd goes

-- a packed byte
pub byte_taken : (path : List ℕ) (z : ℤ) (a b : List ℕ) → IsTaken (a_byte path) (token.Whole z) a b → IsOf Byte (values.Whole z) × Spelt (packed (values.Whole z) ∷ []) a b
byte_taken path z a b (own, parts, (packed v, goes, spelled, is)) = (subst (IsOf Byte) is goes, spelt_by (packed (values.Whole z)) own a b parts (subst (λ y. SpellsField (packed y) own) is spelled))
byte_taken path z a b (own, parts, (f, goes, spelled, is)) = absurd goes

pub byte_token : (path : List ℕ) (t : Token) (a b : List ℕ) → IsTaken (a_byte path) t a b → (z : ℤ) × (t ≡ token.Whole z)
byte_token path (token.Whole z) a b taken = (z, refl)
byte_token path t a b (own, parts, (packed v, goes, spelled, is)) = absurd is
byte_token path t a b (own, parts, (f, goes, spelled, is)) = absurd goes

-- a mark
mark_long : (b : ℕ) (own : List ℕ) → SpellsField (mark b) own → length own ≡ 4
unfolding field_bytes
mark_long b own is = ap length is

pub mark_shorter : (above name : List ℕ) (columns : List Column) (row : ℕ) (t : Token) (a b : List ℕ) → IsTaken (rows above name columns row) t a b → length b + 4 ≡ length a
mark_shorter above name columns row t a b (own, parts, (mark m, goes, spelled, is)) = omega (arith, mark_long m own spelled, ap length parts, length-append own b)
mark_shorter above name columns row t a b (own, parts, (f, goes, spelled, is)) = absurd goes

pub row_taken : (above name : List ℕ) (columns : List Column) (row : ℕ) (a b : List ℕ) → IsTaken (rows above name columns row) token.Row a b → Spelt (mark 0x5a ∷ []) a b
row_taken above name columns row a b (own, parts, (mark m, goes, spelled, is)) = spelt_by (mark 0x5a) own a b parts (subst (λ k. SpellsField (mark k) own) is spelled)
row_taken above name columns row a b (own, parts, (f, goes, spelled, is)) = absurd goes

pub end_taken : (above name : List ℕ) (columns : List Column) (row : ℕ) (a b : List ℕ) → IsTaken (rows above name columns row) token.End a b → Spelt (mark 0xa5 ∷ []) a b
end_taken above name columns row a b (own, parts, (mark m, goes, spelled, is)) = spelt_by (mark 0xa5) own a b parts (subst (λ k. SpellsField (mark k) own) is spelled)
end_taken above name columns row a b (own, parts, (f, goes, spelled, is)) = absurd goes

abbrev pub IsMarkToken : Token → Type 0
IsMarkToken token.Row = Unit {0}
IsMarkToken token.End = Unit {0}
IsMarkToken t = ⊥

pub mark_token : (above name : List ℕ) (columns : List Column) (row : ℕ) (t : Token) (a b : List ℕ) → IsTaken (rows above name columns row) t a b → IsMarkToken t
mark_token above name columns row token.Row a b taken = tt
mark_token above name columns row token.End a b taken = tt
mark_token above name columns row t a b (own, parts, (mark m, goes, spelled, is)) = absurd is
mark_token above name columns row t a b (own, parts, (f, goes, spelled, is)) = absurd goes

pub value_none : (t : Token) → IsValueToken t → ((z : ℤ) → t ≡ token.Whole z → ⊥) → ((n : ℕ) → t ≡ token.Bits32 n → ⊥) → ((n : ℕ) → t ≡ token.Bits64 n → ⊥) → ((n : ℕ) → t ≡ token.Size n → ⊥) → ⊥
value_none (token.Whole z) is a b c d = a z refl
value_none (token.Bits32 n) is a b c d = b n refl
value_none (token.Bits64 n) is a b c d = c n refl
value_none (token.Size n) is a b c d = d n refl
value_none t is a b c d = absurd is

pub mark_none : (t : Token) → IsMarkToken t → (t ≡ token.Row → ⊥) → (t ≡ token.End → ⊥) → ⊥
mark_none token.Row is a b = a refl
mark_none token.End is a b = b refl
mark_none t is a b = absurd is

-- a whole number is held as it is
held : (base : BaseType) (z : ℤ) → IsOf base (values.Whole z) → z ≡ to_z w64 (of_z w64 z)
held base z is =
    let low = whole_low base z is in
    let high = whole_high base z is in
    omega (arith, ints, low, high)

pub whole_held : (path : List ℕ) (base : BaseType) (z : ℤ) (a b : List ℕ) → IsTaken (a_value path base) (token.Whole z) a b → IsNumberRead base (values.Whole (to_z w64 (of_z w64 z))) a b
whole_held path base z a b taken =
    let read = whole_taken path base z a b taken in
    subst (λ y. IsNumberRead base (values.Whole y) a b) (held base z read.0) read

pub byte_held : (path : List ℕ) (z : ℤ) (a b : List ℕ) → IsTaken (a_byte path) (token.Whole z) a b → IsOf Byte (values.Whole (to_z w64 (of_z w64 z))) × Spelt (packed (values.Whole (to_z w64 (of_z w64 z))) ∷ []) a b
byte_held path z a b taken =
    let read = byte_taken path z a b taken in
    subst (λ y. IsOf Byte (values.Whole y) × Spelt (packed (values.Whole y) ∷ []) a b) (held Byte z read.0) read

-- an element that is no packed byte
pub other_want : (base : BaseType) (path : List ℕ) → (base ≡ Byte → ⊥) → element_want base path ≡ a_value path base
other_want Byte path other = absurd (other refl)
other_want Int16 path other = refl
other_want UInt16 path other = refl
other_want Int32 path other = refl
other_want UInt32 path other = refl
other_want Float32 path other = refl
other_want Float64 path other = refl
other_want Text path other = refl
other_want Url path other = refl

pub other_fields : (base : BaseType) → (base ≡ Byte → ⊥) → element_fields base ≡ value_fields base
other_fields Byte other = absurd (other refl)
other_fields Int16 other = refl
other_fields UInt16 other = refl
other_fields Int32 other = refl
other_fields UInt32 other = refl
other_fields Float32 other = refl
other_fields Float64 other = refl
other_fields Text other = refl
other_fields Url other = refl
