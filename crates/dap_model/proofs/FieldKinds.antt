-- Fields that may stand in one place, and that their bytes tell them apart.
use Rattle.std.proofs.Common.{◌≡◌, ℕ, ℤ, pos, negsuc, ◌+◌, ◌-◌, ◌%◌, ◌^◌, ◌<◌, ◌≤◌, ◌≤ℤ◌, ◌<ℤ◌, neg_ℤ, List, [], ◌∷◌, length, ◌⊎◌, ⊎_elim, refl, ap, ◌∙◌, sym, subst, arith}
use Rattle.std.proofs.lemmas.Int.{ints}
use Rattle.std.proofs.lemmas.List.{length-replicate}
use Rattle.std.proofs.lemmas.Nat.{from_be_bytes-to_be_bytes_4, from_be_bytes-to_be_bytes_8}
use Rattle.std.specs.Int.{to_be_bytes, from_be_bytes, cast_unsigned, w32, w64}
use Rattle.plain_lemmas.proofs.Lists.{cons_first}
use Rattle.dap_types.specs.declared.declarations.BaseType.{BaseType}
use Rattle.dap_types.specs.declared.declarations.BaseType.TheVariants.{Byte, Int16, UInt16, Int32, UInt32, Float32, Float64, Text, Url}
use Rattle.dap_types.specs.declared.values.Value.{Value}
use Rattle.dap_types.specs.declared.values.Value.TheVariants as values
use Rattle.dap_model.specs.Fits.{IsOf}
use Rattle.dap_model.specs.Laws.{IsNumber}
use Rattle.dap_model.specs.Received.{width}
use Rattle.dap_model.specs.Xdr.{Field, count, number, packed, filler, size, text, padding, mark, word, byte_of, field_bytes, SpellsField}

abbrev pub IsMark : ℕ → Type 0
IsMark b = (b ≡ 0x5a) ⊎ (b ≡ 0xa5)

-- of one kind and one width, each with a value of its type
abbrev pub SameKind : Field → Field → Type 0
SameKind (count n) (count m) = n ≡ m
SameKind (number b v) (number c w) = (b ≡ c) × IsNumber b × IsOf b v × IsOf c w
SameKind (packed v) (packed w) = IsOf Byte v × IsOf Byte w
SameKind (filler n) (filler m) = n ≡ m
SameKind (size n) (size m) = (n < 2 ^ 31) × (m < 2 ^ 31)
SameKind (text a) (text b) = length a ≡ length b
SameKind (padding n) (padding m) = n ≡ m
SameKind (mark a) (mark b) = IsMark a × IsMark b
SameKind f g = ⊥

-- words
pub word_same : (n m : ℕ) → n < 2 ^ 32 → m < 2 ^ 32 → word n ≡ word m → n ≡ m
word_same n m a b same = sym (from_be_bytes-to_be_bytes_4 n a) ∙ ap (from_be_bytes w32) same ∙ from_be_bytes-to_be_bytes_4 m b

double_same : (n m : ℕ) → n < 2 ^ 64 → m < 2 ^ 64 → to_be_bytes w64 n ≡ to_be_bytes w64 m → n ≡ m
double_same n m a b same = sym (from_be_bytes-to_be_bytes_8 n a) ∙ ap (from_be_bytes w64) same ∙ from_be_bytes-to_be_bytes_8 m b

-- whole numbers of one type by their words
pub small_word : (z : ℤ) → neg_ℤ (pos (2 ^ 31)) ≤ℤ z → z <ℤ pos (2 ^ 32) → cast_unsigned w32 z < 2 ^ 32
small_word (pos n) low high = omega (arith, ints)
small_word (negsuc n) low high = omega (arith, ints)

signed_same : (y z : ℤ) → neg_ℤ (pos (2 ^ 31)) ≤ℤ y → y <ℤ pos (2 ^ 31) → neg_ℤ (pos (2 ^ 31)) ≤ℤ z → z <ℤ pos (2 ^ 31) → cast_unsigned w32 y ≡ cast_unsigned w32 z → y ≡ z
signed_same (pos n) (pos m) a b c d same = ap pos same
signed_same (pos n) (negsuc m) a b c d same = absurd (omega (arith, ints))
signed_same (negsuc n) (pos m) a b c d same = absurd (omega (arith, ints))
signed_same (negsuc n) (negsuc m) a b c d same = let is : n ≡ m = omega (arith, ints) in ap negsuc is

unsigned_same : (y z : ℤ) → pos 0 ≤ℤ y → pos 0 ≤ℤ z → cast_unsigned w32 y ≡ cast_unsigned w32 z → y ≡ z
unsigned_same (pos n) (pos m) a b same = ap pos same
unsigned_same (pos n) (negsuc m) a b same = absurd (omega (arith, ints))
unsigned_same (negsuc n) z a b same = absurd (omega (arith, ints))

signed_words : (y z : ℤ) → neg_ℤ (pos (2 ^ 31)) ≤ℤ y → y <ℤ pos (2 ^ 31) → neg_ℤ (pos (2 ^ 31)) ≤ℤ z → z <ℤ pos (2 ^ 31) → word (cast_unsigned w32 y) ≡ word (cast_unsigned w32 z) → y ≡ z
signed_words y z a b c d same =
    signed_same y z a b c d (word_same (cast_unsigned w32 y) (cast_unsigned w32 z) (small_word y a (omega (arith, ints))) (small_word z c (omega (arith, ints))) same)

unsigned_words : (y z : ℤ) → pos 0 ≤ℤ y → y <ℤ pos (2 ^ 32) → pos 0 ≤ℤ z → z <ℤ pos (2 ^ 32) → word (cast_unsigned w32 y) ≡ word (cast_unsigned w32 z) → y ≡ z
unsigned_words y z a b c d same =
    unsigned_same y z a c (word_same (cast_unsigned w32 y) (cast_unsigned w32 z) (small_word y (omega (arith, ints)) b) (small_word z (omega (arith, ints)) d) same)

-- a scalar Byte, in either of its words
abbrev ByteWord : ℕ → List ℕ → Type 0
ByteWord b bs = (bs ≡ word b) ⊎ ((128 ≤ b) × (bs ≡ word (0xffffff00 + b)))

byte_words : (b c : ℕ) (bs : List ℕ) → b < 256 → c < 256 → ByteWord b bs → ByteWord c bs → b ≡ c
byte_words b c bs small small' one two =
    ⊎_elim
    (λ x. ⊎_elim (λ y. word_same b c (omega arith) (omega arith) (sym x ∙ y))
    (λ y. let same : b ≡ 0xffffff00 + c = word_same b (0xffffff00 + c) (omega arith) (omega arith) (sym x ∙ y.1) in absurd (omega arith)) two)
    (λ x. ⊎_elim (λ y. let same : 0xffffff00 + b ≡ c = word_same (0xffffff00 + b) c (omega arith) (omega arith) (sym x.1 ∙ y) in absurd (omega arith))
    (λ y. let same : 0xffffff00 + b ≡ 0xffffff00 + c = word_same (0xffffff00 + b) (0xffffff00 + c) (omega arith) (omega arith) (sym x.1 ∙ y.1) in omega arith) two)
    one

-- numbers of one type by their bytes
numbers_same : (base : BaseType) (v w : Value) (bs : List ℕ) → IsNumber base → IsOf base v → IsOf base w → SpellsField (number base v) bs → SpellsField (number base w) bs → v ≡ w
unfolding field_bytes
numbers_same Text v w bs num is is' one two = absurd num
numbers_same Url v w bs num is is' one two = absurd num
numbers_same Byte (values.Whole (pos b)) (values.Whole (pos c)) bs num is is' one two = ap (λ n. values.Whole (pos n)) (byte_words b c bs (omega (arith, ints)) (omega (arith, ints)) one two)
numbers_same Byte (values.Whole (pos b)) (values.Whole (negsuc c)) bs num is is' one two = absurd (omega (arith, ints))
numbers_same Byte (values.Whole (negsuc b)) w bs num is is' one two = absurd (omega (arith, ints))
numbers_same Int16 (values.Whole y) (values.Whole z) bs num is is' one two =
    ap (λ n. values.Whole n) (signed_words y z (omega (arith, ints)) (omega (arith, ints)) (omega (arith, ints)) (omega (arith, ints)) (sym one ∙ two))
numbers_same UInt16 (values.Whole y) (values.Whole z) bs num is is' one two =
    ap (λ n. values.Whole n) (unsigned_words y z (omega (arith, ints)) (omega (arith, ints)) (omega (arith, ints)) (omega (arith, ints)) (sym one ∙ two))
numbers_same Int32 (values.Whole y) (values.Whole z) bs num is is' one two =
    ap (λ n. values.Whole n) (signed_words y z (omega (arith, ints)) (omega (arith, ints)) (omega (arith, ints)) (omega (arith, ints)) (sym one ∙ two))
numbers_same UInt32 (values.Whole y) (values.Whole z) bs num is is' one two =
    ap (λ n. values.Whole n) (unsigned_words y z (omega (arith, ints)) (omega (arith, ints)) (omega (arith, ints)) (omega (arith, ints)) (sym one ∙ two))
numbers_same Float32 (values.Bits32 n) (values.Bits32 m) bs num is is' one two = ap (λ k. values.Bits32 k) (word_same n m is is' (sym one ∙ two))
numbers_same Float64 (values.Bits64 n) (values.Bits64 m) bs num is is' one two = ap (λ k. values.Bits64 k) (double_same n m is is' (sym one ∙ two))
numbers_same Byte (values.Whole (pos b)) w bs num is is' one two = absurd is'
numbers_same Int16 (values.Whole y) w bs num is is' one two = absurd is'
numbers_same UInt16 (values.Whole y) w bs num is is' one two = absurd is'
numbers_same Int32 (values.Whole y) w bs num is is' one two = absurd is'
numbers_same UInt32 (values.Whole y) w bs num is is' one two = absurd is'
numbers_same Float32 (values.Bits32 n) w bs num is is' one two = absurd is'
numbers_same Float64 (values.Bits64 n) w bs num is is' one two = absurd is'
numbers_same base v w bs num is is' one two = absurd is

number_width : (base : BaseType) (v : Value) (bs : List ℕ) → IsNumber base → IsOf base v → SpellsField (number base v) bs → length bs ≡ width (number base v)
unfolding field_bytes
number_width Text v bs num is spelled = absurd num
number_width Url v bs num is spelled = absurd num
number_width Byte (values.Whole (pos b)) bs num is spelled = ⊎_elim (λ x. ap length x) (λ x. ap length x.1) spelled
number_width Byte (values.Whole (negsuc b)) bs num is spelled = ap length spelled
number_width Int16 (values.Whole z) bs num is spelled = ap length spelled
number_width UInt16 (values.Whole z) bs num is spelled = ap length spelled
number_width Int32 (values.Whole z) bs num is spelled = ap length spelled
number_width UInt32 (values.Whole z) bs num is spelled = ap length spelled
number_width Float32 (values.Bits32 n) bs num is spelled = ap length spelled
number_width Float64 (values.Bits64 n) bs num is spelled = ap length spelled
number_width base v bs num is spelled = absurd is

-- a good field has its width
pub spelled_width : (f g : Field) (bs : List ℕ) → SameKind f g → SpellsField f bs → length bs ≡ width f
unfolding field_bytes
spelled_width (count n) (count m) bs kind spelled = ap length spelled.1
spelled_width (number b v) (number c w) bs kind spelled = number_width b v bs kind.1 kind.2 spelled
spelled_width (packed v) (packed w) bs kind spelled = ap length spelled
spelled_width (filler n) (filler m) bs kind spelled = ap length spelled ∙ length-replicate (3 - (n + 3) % 4) 0
spelled_width (size n) (size m) bs kind spelled = ap length spelled
spelled_width (text a) (text b) bs kind spelled = ap length spelled
spelled_width (padding n) (padding m) bs kind spelled = ap length spelled ∙ length-replicate (3 - (n + 3) % 4) 0
spelled_width (mark a) (mark b) bs kind spelled = ap length spelled
spelled_width f g bs kind spelled = absurd kind

number_widths : (b c : BaseType) (v w : Value) → b ≡ c → width (number b v) ≡ width (number c w)
number_widths b c v w same = ap (λ d. width (number d v)) same ∙ any c v w
  where
    any : (d : BaseType) (x y : Value) → width (number d x) ≡ width (number d y)
    any Float64 x y = refl
    any d x y = refl

pub same_width : (f g : Field) → SameKind f g → width f ≡ width g
same_width (count n) (count m) kind = refl
same_width (number b v) (number c w) kind = number_widths b c v w kind.0
same_width (packed v) (packed w) kind = refl
same_width (filler n) (filler m) kind = ap (λ k. 3 - (k + 3) % 4) kind
same_width (size n) (size m) kind = refl
same_width (text a) (text b) kind = kind
same_width (padding n) (padding m) kind = ap (λ k. 3 - (k + 3) % 4) kind
same_width (mark a) (mark b) kind = refl
same_width f g kind = absurd kind

pub kinds_back : (f g : Field) → SameKind f g → SameKind g f
kinds_back (count n) (count m) kind = sym kind
kinds_back (number b v) (number c w) kind = (sym kind.0, subst IsNumber kind.0 kind.1, kind.3, kind.2)
kinds_back (packed v) (packed w) kind = (kind.1, kind.0)
kinds_back (filler n) (filler m) kind = sym kind
kinds_back (size n) (size m) kind = (kind.1, kind.0)
kinds_back (text a) (text b) kind = sym kind
kinds_back (padding n) (padding m) kind = sym kind
kinds_back (mark a) (mark b) kind = (kind.1, kind.0)
kinds_back f g kind = absurd kind

byte_same : (v w : Value) → IsOf Byte v → IsOf Byte w → byte_of v ≡ byte_of w → v ≡ w
byte_same (values.Whole (pos b)) (values.Whole (pos c)) is is' same = let e : b ≡ c = omega (arith, ints) in ap (λ n. values.Whole (pos n)) e
byte_same (values.Whole (pos b)) (values.Whole (negsuc c)) is is' same = absurd (omega (arith, ints))
byte_same (values.Whole (negsuc b)) w is is' same = absurd (omega (arith, ints))
byte_same (values.Whole (pos b)) w is is' same = absurd is'
byte_same v w is is' same = absurd is

-- bytes that spell two fields of one kind spell one field
pub spelled_same : (f g : Field) (bs : List ℕ) → SameKind f g → SpellsField f bs → SpellsField g bs → f ≡ g
unfolding field_bytes
spelled_same (count n) (count m) bs kind one two = ap count kind
spelled_same (number b v) (number c w) bs kind one two =
    let two' = subst (λ d. SpellsField (number d w) bs) (sym kind.0) two in
    let is' = subst (λ d. IsOf d w) (sym kind.0) kind.3 in
    ap (number b) (numbers_same b v w bs kind.1 kind.2 is' one two') ∙ ap (λ d. number d w) kind.0
spelled_same (packed v) (packed w) bs kind one two = ap packed (byte_same v w kind.0 kind.1 (cons_first (byte_of v) (byte_of w) [] [] (sym one ∙ two)))
spelled_same (filler n) (filler m) bs kind one two = ap filler kind
spelled_same (size n) (size m) bs kind one two = ap size (word_same n m (omega (arith, kind.0)) (omega (arith, kind.1)) (sym one ∙ two))
spelled_same (text a) (text b) bs kind one two = ap text (sym one ∙ two)
spelled_same (padding n) (padding m) bs kind one two = ap padding kind
spelled_same (mark a) (mark b) bs kind one two = ap mark (cons_first a b (0 ∷ 0 ∷ 0 ∷ []) (0 ∷ 0 ∷ 0 ∷ []) (sym one ∙ two))
spelled_same f g bs kind one two = absurd kind
