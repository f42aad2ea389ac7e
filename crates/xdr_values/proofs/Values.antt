-- Single values in their own bytes.
use Rattle.std.proofs.Common.{◌≡◌, ℕ, ℤ, pos, negsuc, ◌+◌, ◌-◌, ◌%◌, ◌<◌, ◌≤◌, ◌^◌, List, [], ◌∷◌, ◌++◌, length, inl, inr, refl, sym, ap, ◌∙◌, subst, arith, append_assoc, append-nil, length-append}
use Rattle.std.specs.Prelude.{◌⊎◌, ◌≤ℤ◌, ◌<ℤ◌, neg_ℤ}
use Rattle.std.proofs.lemmas.List.{length-replicate}
use Rattle.std.specs.Int.{to_be_bytes, cast_unsigned, w32, w64}
use Rattle.std.proofs.lemmas.Int.{ints, to_z-of_z, to_z_pos}
use mir.Val.{to_z, of_z, SFits}
use Rattle.dap_types.specs.declared.declarations.BaseType.{BaseType}
use Rattle.dap_types.specs.declared.declarations.BaseType.TheVariants.{Byte, Int16, UInt16, Int32, UInt32, Float32, Float64, Text, Url}
use Rattle.dap_types.specs.declared.values.Value.{Value}
use Rattle.dap_types.specs.declared.values.Value.TheVariants as values
use Rattle.dap_model.specs.Fits.{IsOf}
use Rattle.dap_model.specs.Laws.{IsNumber}
use Rattle.dap_model.specs.Xdr.{Field, number, field_bytes, bytes_of, value_fields, string_fields, word, zeros, SpellsField, SpellsFields}
use Rattle.xdr_encode.proofs.StringParts.{string-parts}
use Rattle.xdr_fields.proofs.OneFront.{own_long}
use Rattle.xdr_fields.specs.Wants.{a_value, room, IsTextType}
use Rattle.xdr_values.proofs.Exact.{Wide, field_exact, fields_exact, value_single}
use Rattle.xdr_values.specs.Walked.{IsValue, StandsValue}
use Rattle.dap_model.proofs.Decoding.{plain}

pub one_spelled : (f : Field) (own : List ℕ) → SpellsFields (f ∷ []) own → SpellsField f own
one_spelled f own (x, y, parts, first, none) = subst (SpellsField f) (sym (parts ∙ ap (λ l. x ++ l) none ∙ append-nil x)) first

-- a number
pub number_spelled : (base : BaseType) (v : Value) (own : List ℕ) → IsNumber base → IsValue base v own → SpellsField (number base v) own
number_spelled base v own num is = one_spelled (number base v) own (subst (λ fs. SpellsFields fs own) (plain base v num is.is_of) is.spelled)

pub number_long : (base : BaseType) (v : Value) (own : List ℕ) → IsNumber base → IsValue base v own → length own ≡ room (a_value [] base)
number_long base v own num is = own_long (a_value [] base) (number base v) own (refl, num, is.is_of) (number_spelled base v own num is)

-- a text
pub record IsString (v : Value) (own : List ℕ) : Type 0 where
  pub bytes : List ℕ
  pub is : v ≡ values.Text bytes
  pub short : length bytes < 2 ^ 31
  pub own_is : own ≡ bytes_of (string_fields bytes)

string_of : (base : BaseType) (v : Value) (own : List ℕ) → IsOf Text v → Wide base → SpellsFields (value_fields base v) own → IsString v own
string_of base (values.Text bytes) own is wide s = record { bytes = bytes; is = refl; short = is; own_is = fields_exact (string_fields bytes) own (value_single base (values.Text bytes) wide) s }
string_of base v own is wide s = absurd is

pub text_spelled : (base : BaseType) (v : Value) (own : List ℕ) → IsTextType base → IsValue base v own → IsString v own
text_spelled Text v own txt is = string_of Text v own is.is_of tt is.spelled
text_spelled Url (values.Text bytes) own txt is = string_of Url (values.Text bytes) own is.is_of tt is.spelled
text_spelled Url (values.Whole z) own txt is = absurd is.is_of
text_spelled Url (values.Bits32 z) own txt is = absurd is.is_of
text_spelled Url (values.Bits64 z) own txt is = absurd is.is_of
text_spelled base v own txt is = absurd txt

-- where a value stands, its own bytes and the rest
pub record HasOwn (base : BaseType) (v : Value) (bytes rest : List ℕ) : Type 0 where
  pub own : List ℕ
  pub parts : bytes ≡ own ++ rest
  pub is_value : IsValue base v own

pub own_of : (base : BaseType) (v : Value) (bytes rest : List ℕ) → StandsValue base v bytes rest → HasOwn base v bytes rest
own_of base v bytes rest s = let (own, is, spelled) = s.spelt in record { own = own; parts = is; is_value = record { is_of = s.is_of; spelled = spelled } }

-- ---- what the code finds in them
-- what reading a word at the front tells
abbrev pub TellsWord : List ℕ → ℕ → Type 0
TellsWord bytes w = (n : ℕ) (rest : List ℕ) → n < 2 ^ 32 → bytes ≡ word n ++ rest → w ≡ n

pub word_is : (own : List ℕ) (w n : ℕ) → TellsWord own w → n < 2 ^ 32 → own ≡ word n → w ≡ n
word_is own w n tells lt is = tells n [] lt (is ∙ sym (append-nil (word n)))

low_byte : (own : List ℕ) (w b : ℕ) → b < 256 → TellsWord own w → (own ≡ word b) ⊎ ((128 ≤ b) × (own ≡ word (0xffffff00 + b))) → w % 256 ≡ b
low_byte own w b lt tells (inl is) = let e : w ≡ b = word_is own w b tells (omega arith) is in omega arith
low_byte own w b lt tells (inr (le, is)) = let e : w ≡ 0xffffff00 + b = word_is own w (0xffffff00 + b) tells (omega arith) is in omega arith

-- a Byte goes out as a word below 256
pub byte_sent : (v : Value) (own : List ℕ) (w : ℕ) → IsValue Byte v own → TellsWord own w → word (w % 256) ≡ bytes_of (value_fields Byte v)
unfolding bytes_of field_bytes
byte_sent (values.Whole (pos b)) own w is tells =
    let fits = is.is_of in
    let lt : b < 256 = omega (arith, ints, fits.1) in
    let low : w % 256 ≡ b = low_byte own w b lt tells (one_spelled (number Byte (values.Whole (pos b))) own is.spelled) in
    let same : w % 256 ≡ cast_unsigned w32 (pos b) = omega (arith, ints) in
    ap word same
byte_sent (values.Whole (negsuc b)) own w is tells = let fits = is.is_of in absurd (omega (arith, ints, fits.0))
byte_sent (values.Bits32 n) own w is tells = absurd is.is_of
byte_sent (values.Bits64 n) own w is tells = absurd is.is_of
byte_sent (values.Text t) own w is tells = absurd is.is_of

pub byte_at : (base : BaseType) (v : Value) (own : List ℕ) (w : ℕ) → base ≡ Byte → IsValue base v own → TellsWord own w → word (w % 256) ≡ bytes_of (value_fields base v)
byte_at base v own w at is tells = subst (λ b. word (w % 256) ≡ bytes_of (value_fields b v)) (sym at) (byte_sent v own w (subst (λ b. IsValue b v own) at is) tells)

wide : (base : BaseType) → ¬ (base ≡ Byte) → Wide base
wide Byte apart = absurd (apart refl)
wide Int16 apart = tt
wide UInt16 apart = tt
wide Int32 apart = tt
wide UInt32 apart = tt
wide Float32 apart = tt
wide Float64 apart = tt
wide Text apart = tt
wide Url apart = tt

-- and other values as they stand there
pub other_sent : (base : BaseType) (v : Value) (own : List ℕ) → ¬ (base ≡ Byte) → IsValue base v own → own ≡ bytes_of (value_fields base v)
other_sent base v own apart is = fields_exact (value_fields base v) own (value_single base v (wide base apart)) is.spelled

-- how long a string is, by its length
pub string_long : (chars bytes rest : List ℕ) (long_word : ℕ) → length chars < 2 ^ 31 → bytes ≡ bytes_of (string_fields chars) ++ rest → TellsWord bytes long_word → 4 + long_word + (3 - (long_word + 3) % 4) ≡ length (bytes_of (string_fields chars))
string_long chars bytes rest long_word lt is tells =
    let n : ℕ = length chars in
    let parts : bytes ≡ word n ++ ((chars ++ zeros n) ++ rest) = is ∙ ap (λ l. l ++ rest) (string-parts chars) ∙ append_assoc (word n) (chars ++ zeros n) rest in
    let same : long_word ≡ n = tells n ((chars ++ zeros n) ++ rest) (omega arith) parts in
    let long : length (word n ++ (chars ++ zeros n)) ≡ 4 + (n + (3 - (n + 3) % 4)) =
    length-append (word n) (chars ++ zeros n) ∙ ap (λ k. 4 + k) (length-append chars (zeros n) ∙ ap (λ k. n + k) (length-replicate (3 - (n + 3) % 4) 0)) in
    let sums : 4 + n + (3 - (n + 3) % 4) ≡ 4 + (n + (3 - (n + 3) % 4)) = omega arith in
    ap (λ k. 4 + k + (3 - (k + 3) % 4)) same ∙ sums ∙ sym long ∙ ap length (sym (string-parts chars))

-- what cutting bytes in two tells
abbrev pub TellsFront : List ℕ → ℕ → List ℕ → Type 0
TellsFront bytes at front = (own rest : List ℕ) → bytes ≡ own ++ rest → length own ≡ at → front ≡ own

abbrev pub TellsRest : List ℕ → ℕ → List ℕ → Type 0
TellsRest bytes at behind = (own rest : List ℕ) → bytes ≡ own ++ rest → length own ≡ at → behind ≡ rest

-- the bytes of a string behind its length
pub text_there : (chars own behind front : List ℕ) (long_word : ℕ) → length chars < 2 ^ 31 → own ≡ bytes_of (string_fields chars) → TellsWord own long_word → TellsRest own 4 behind → TellsFront behind long_word front → front ≡ chars
text_there chars own behind front long_word lt is tells rests fronts =
    let n : ℕ = length chars in
    let parts : own ≡ word n ++ (chars ++ zeros n) = is ∙ string-parts chars in
    let same : long_word ≡ n = tells n (chars ++ zeros n) (omega arith) parts in
    fronts chars (zeros n) (rests (word n) (chars ++ zeros n) parts refl) (sym same)

-- how long a number is
pub long_four : (base : BaseType) (v : Value) (own : List ℕ) → ¬ (base ≡ Text) → ¬ (base ≡ Url) → ¬ (base ≡ Float64) → IsValue base v own → 4 ≡ length own
long_four Byte v own a b c is = sym (number_long Byte v own tt is)
long_four Int16 v own a b c is = sym (number_long Int16 v own tt is)
long_four UInt16 v own a b c is = sym (number_long UInt16 v own tt is)
long_four Int32 v own a b c is = sym (number_long Int32 v own tt is)
long_four UInt32 v own a b c is = sym (number_long UInt32 v own tt is)
long_four Float32 v own a b c is = sym (number_long Float32 v own tt is)
long_four Float64 v own a b c is = absurd (c refl)
long_four Text v own a b c is = absurd (a refl)
long_four Url v own a b c is = absurd (b refl)

pub long_eight : (v : Value) (own : List ℕ) → IsValue Float64 v own → 8 ≡ length own
long_eight v own is = sym (number_long Float64 v own tt is)

-- how long a text is
pub long_text : (base : BaseType) (v : Value) (own bytes rest : List ℕ) (long_word : ℕ) → IsTextType base → IsValue base v own → bytes ≡ own ++ rest
    → ((chars rest : List ℕ) → length chars < 2 ^ 31 → bytes ≡ bytes_of (string_fields chars) ++ rest → long_word ≡ length (bytes_of (string_fields chars))) → long_word ≡ length own
long_text base v own bytes rest long_word txt is parts tells =
    let s = text_spelled base v own txt is in tells s.bytes rest s.short (parts ∙ ap (λ l. l ++ rest) s.own_is) ∙ ap length (sym s.own_is)

-- ---- values as cells
number_own : (base : BaseType) (v : Value) (own : List ℕ) → Wide base → IsNumber base → IsValue base v own → own ≡ field_bytes (number base v)
number_own base v own w num is = field_exact (number base v) own w (number_spelled base v own num is)

whole_told : (base : BaseType) (z : ℤ) (own : List ℕ) (w : ℕ) → Wide base → IsNumber base → IsValue base (values.Whole z) own → TellsWord own w → cast_unsigned w32 z < 2 ^ 32 → w ≡ cast_unsigned w32 z
unfolding field_bytes
whole_told base z own w wd num is tells lt = word_is own w (cast_unsigned w32 z) tells lt (number_own base (values.Whole z) own wd num is)

abbrev SignedCell : BaseType → Type 0
SignedCell base = (v : Value) (own : List ℕ) (w : ℕ) (r : ℤ) → IsValue base v own → TellsWord own w → r ≡ to_z w32 (of_z w32 (to_z w32 w)) → values.Whole (to_z w64 (of_z w64 r)) ≡ v

abbrev UnsignedCell : BaseType → Type 0
UnsignedCell base = (v : Value) (own : List ℕ) (w : ℕ) (r : ℤ) → IsValue base v own → TellsWord own w → r ≡ pos w → values.Whole (to_z w64 (of_z w64 r)) ≡ v

fits_word : (z : ℤ) → neg_ℤ (pos (2 ^ 31)) ≤ℤ z → z <ℤ pos (2 ^ 31) → SFits w32 z
fits_word (pos n) low high = record { sfits = omega (arith, ints) }
fits_word (negsuc n) low high = record { sfits = omega (arith, ints) }

fits_double : (z : ℤ) → neg_ℤ (pos (2 ^ 31)) ≤ℤ z → z <ℤ pos (2 ^ 31) → SFits w64 z
fits_double (pos n) low high = record { sfits = omega (arith, ints) }
fits_double (negsuc n) low high = record { sfits = omega (arith, ints) }

small_word : (z : ℤ) → neg_ℤ (pos (2 ^ 31)) ≤ℤ z → z <ℤ pos (2 ^ 31) → cast_unsigned w32 z < 2 ^ 32
small_word (pos n) low high = omega (arith, ints)
small_word (negsuc n) low high = omega (arith, ints)

-- a word read as a signed number is that number
signed_back : (z r : ℤ) (w : ℕ) → SFits w32 z → SFits w64 z → w ≡ cast_unsigned w32 z → r ≡ to_z w32 (of_z w32 (to_z w32 w)) → to_z w64 (of_z w64 r) ≡ z
signed_back z r w word_fits double_fits w_is r_is =
    let back : to_z w32 w ≡ z = ap (to_z w32) w_is ∙ to_z-of_z w32 z word_fits in
    let again : r ≡ z = r_is ∙ ap (λ y. to_z w32 (of_z w32 y)) back ∙ to_z-of_z w32 z word_fits in
    ap (λ y. to_z w64 (of_z w64 y)) again ∙ to_z-of_z w64 z double_fits

signed_value : (base : BaseType) (z : ℤ) (own : List ℕ) (w : ℕ) (r : ℤ) → Wide base → IsNumber base → neg_ℤ (pos (2 ^ 31)) ≤ℤ z → z <ℤ pos (2 ^ 31) → IsValue base (values.Whole z) own → TellsWord own w
    → r ≡ to_z w32 (of_z w32 (to_z w32 w)) → values.Whole (to_z w64 (of_z w64 r)) ≡ values.Whole z
signed_value base z own w r wd num low high is tells r_is =
    ap (λ y. values.Whole y) (signed_back z r w (fits_word z low high) (fits_double z low high) (whole_told base z own w wd num is tells (small_word z low high)) r_is)

cell_int16 : SignedCell Int16
cell_int16 (values.Whole z) own w r is tells r_is =
    let fits = is.is_of in
    let low = fits.0 in
    let high = fits.1 in
    signed_value Int16 z own w r tt tt (omega (arith, ints)) (omega (arith, ints)) is tells r_is
cell_int16 v own w r is tells r_is = absurd is.is_of

cell_int32 : SignedCell Int32
cell_int32 (values.Whole z) own w r is tells r_is = let fits = is.is_of in signed_value Int32 z own w r tt tt fits.0 fits.1 is tells r_is
cell_int32 v own w r is tells r_is = absurd is.is_of

unsigned_value : (base : BaseType) (n : ℕ) (own : List ℕ) (w : ℕ) (r : ℤ) → Wide base → IsNumber base → n < 2 ^ 32 → IsValue base (values.Whole (pos n)) own → TellsWord own w → r ≡ pos w → values.Whole (to_z w64 (of_z w64 r)) ≡ values.Whole (pos n)
unsigned_value base n own w r wd num lt is tells r_is =
    let same : w ≡ n = whole_told base (pos n) own w wd num is tells lt in
    ap (λ y. values.Whole y) (ap (λ y. to_z w64 (of_z w64 y)) (r_is ∙ ap pos same) ∙ to_z_pos w64 n (omega arith))

cell_uint16 : UnsignedCell UInt16
cell_uint16 (values.Whole (pos n)) own w r is tells r_is = let fits = is.is_of in let high = fits.1 in unsigned_value UInt16 n own w r tt tt (omega (arith, ints)) is tells r_is
cell_uint16 (values.Whole (negsuc n)) own w r is tells r_is = let fits = is.is_of in absurd (omega (arith, ints, fits.0))
cell_uint16 v own w r is tells r_is = absurd is.is_of

cell_uint32 : UnsignedCell UInt32
cell_uint32 (values.Whole (pos n)) own w r is tells r_is = let fits = is.is_of in let high = fits.1 in unsigned_value UInt32 n own w r tt tt (omega (arith, ints)) is tells r_is
cell_uint32 (values.Whole (negsuc n)) own w r is tells r_is = let fits = is.is_of in absurd (omega (arith, ints, fits.0))
cell_uint32 v own w r is tells r_is = absurd is.is_of

pub signed_cell : (base : BaseType) → (base ≡ Int16) ⊎ (base ≡ Int32) → SignedCell base
signed_cell base (inl at) = subst SignedCell (sym at) cell_int16
signed_cell base (inr at) = subst SignedCell (sym at) cell_int32

pub unsigned_cell : (base : BaseType) → (base ≡ UInt16) ⊎ (base ≡ UInt32) → UnsignedCell base
unsigned_cell base (inl at) = subst UnsignedCell (sym at) cell_uint16
unsigned_cell base (inr at) = subst UnsignedCell (sym at) cell_uint32

float_cell : (v : Value) (own : List ℕ) (w : ℕ) → IsValue Float32 v own → TellsWord own w → values.Bits32 w ≡ v
unfolding field_bytes
float_cell (values.Bits32 n) own w is tells = ap (λ k. values.Bits32 k) (word_is own w n tells is.is_of (number_own Float32 (values.Bits32 n) own tt tt is))
float_cell v own w is tells = absurd is.is_of

pub single_cell : (base : BaseType) (v : Value) (own : List ℕ) (w : ℕ) → base ≡ Float32 → IsValue base v own → TellsWord own w → values.Bits32 w ≡ v
single_cell base v own w at is tells = float_cell v own w (subst (λ b. IsValue b v own) at is) tells

abbrev pub TellsDouble : List ℕ → ℕ → Type 0
TellsDouble own w = (n : ℕ) → own ≡ to_be_bytes w64 n → n < 2 ^ 64 → w ≡ n

double : (v : Value) (own : List ℕ) (w : ℕ) → IsValue Float64 v own → TellsDouble own w → values.Bits64 w ≡ v
unfolding field_bytes
double (values.Bits64 n) own w is tells = ap (λ k. values.Bits64 k) (tells n (number_own Float64 (values.Bits64 n) own tt tt is) is.is_of)
double v own w is tells = absurd is.is_of

pub double_cell : (base : BaseType) (v : Value) (own : List ℕ) (w : ℕ) → base ≡ Float64 → IsValue base v own → TellsDouble own w → values.Bits64 w ≡ v
double_cell base v own w at is tells = double v own w (subst (λ b. IsValue b v own) at is) tells

pub is_text : (base : BaseType) → (base ≡ Text) ⊎ (base ≡ Url) → IsTextType base
is_text base (inl at) = subst IsTextType (sym at) tt
is_text base (inr at) = subst IsTextType (sym at) tt

pub text_cell : (base : BaseType) (v : Value) (own front : List ℕ) → (base ≡ Text) ⊎ (base ≡ Url) → IsValue base v own
    → ((chars : List ℕ) → length chars < 2 ^ 31 → own ≡ bytes_of (string_fields chars) → front ≡ chars) → values.Text front ≡ v
text_cell base v own front at is tells =
    let s = text_spelled base v own (is_text base at) is in ap (λ l. values.Text l) (tells s.bytes s.short s.own_is) ∙ sym s.is
