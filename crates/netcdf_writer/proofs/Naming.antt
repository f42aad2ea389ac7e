-- What a name is undone to are the bytes whose escape it is, and no others.
use Rattle.std.proofs.Common.{◌≡◌, ℕ, ◌+◌, ◌/◌, ◌%◌, ◌<◌, ◌≤◌, Bool, true, false, not, ◌&&◌, List, [], ◌∷◌, ◌++◌, All, Option, Some, None, refl, ap, sym, ◌∙◌, arith, subst, ◌==◌, ◌⊎◌, ⊎_elim, nat_lt, if◌then◌else◌}
use Rattle.std.proofs.lemmas.Bool.Decides.{nat_tests}
use Rattle.std.proofs.lemmas.List.Elements.{All-cons, All-nil, All-head, All-tail}
use Rattle.netcdf_writer.proofs.Undoing.{undone_end}
use Rattle.netcdf_source.proofs.EscapedNames.{no_percent}
use Rattle.dap_types.specs.Names.{escaped_byte, file_id, hex_digit, is_kept_byte}
use Rattle.netcdf_writer.specs.Names.{before, byte_of, digit_of, escaped, is_digit, plain, undone}

not_percent : (b : ℕ) → is_kept_byte b ≡ true → (b == 37) ≡ false
not_percent b kept = chosen (b == 37) refl
  where
    chosen : (t : Bool) → (b == 37) ≡ t → t ≡ false
    chosen false e = refl
    chosen true e = absurd (no_percent b kept (grind (arith, nat_tests, e)))

-- ---- the bytes of a digit

digit_is : (d : ℕ) → is_digit d ≡ true → ((48 ≤ d) × (d ≤ 57)) ⊎ ((65 ≤ d) × (d ≤ 70))
digit_is d e = grind (arith, nat_tests)

-- ---- one byte

byte_kept : (b : ℕ) → is_kept_byte b ≡ true → escaped_byte b ≡ b ∷ []
byte_kept b e = ap (λ t. if t then b ∷ [] else 37 ∷ hex_digit (b / 16) ∷ hex_digit (b % 16) ∷ []) e

byte_escaped : (b : ℕ) → is_kept_byte b ≡ false → escaped_byte b ≡ 37 ∷ hex_digit (b / 16) ∷ hex_digit (b % 16) ∷ []
byte_escaped b e = ap (λ t. if t then b ∷ [] else 37 ∷ hex_digit (b / 16) ∷ hex_digit (b % 16) ∷ []) e

plain_kept : (b : ℕ) → is_kept_byte b ≡ true → plain b ≡ Some b
plain_kept b e = ap (λ t. if t then Some b else None) e

-- a kept byte comes first
undone_kept : (b : ℕ) (xs : List ℕ) → is_kept_byte b ≡ true → undone (b ∷ xs) ≡ before (Some b) (undone xs)
unfolding undone
undone_kept b [] e = ap (λ o. before o (Some [])) (plain_kept b e)
undone_kept b (c ∷ []) e = ap (λ o. before o (undone (c ∷ []))) (plain_kept b e)
undone_kept b (c ∷ d ∷ xs) e =
    ap (λ t. if t then before (escaped c d) (undone xs) else before (plain b) (undone (c ∷ d ∷ xs))) (not_percent b e) ∙ ap (λ o. before o (undone (c ∷ d ∷ xs))) (plain_kept b e)

hex_is : (n : ℕ) → n < 16 → (is_digit (hex_digit n) ≡ true) × (digit_of (hex_digit n) ≡ n)
hex_is n lt = chosen (nat_lt n 10) refl
  where
    chosen : (t : Bool) → nat_lt n 10 ≡ t → (is_digit (if t then 48 + n else 55 + n) ≡ true) × (digit_of (if t then 48 + n else 55 + n) ≡ n)
    chosen true e = (grind (arith, nat_tests, e, lt), grind (arith, nat_tests, e, lt))
    chosen false e = (grind (arith, nat_tests, e, lt), grind (arith, nat_tests, e, lt))

escaped_is : (b : ℕ) → b < 256 → is_kept_byte b ≡ false → escaped (hex_digit (b / 16)) (hex_digit (b % 16)) ≡ Some b
escaped_is b lt e =
    let high = hex_is (b / 16) (omega (arith, lt)) in
    let low = hex_is (b % 16) (omega arith) in
    let whole : byte_of (hex_digit (b / 16)) (hex_digit (b % 16)) ≡ b = omega (arith, high.1, low.1) in
    rw (high.0, low.0, whole, e) refl

undone_escaped : (c d : ℕ) (xs : List ℕ) → undone (37 ∷ c ∷ d ∷ xs) ≡ before (escaped c d) (undone xs)
unfolding undone
undone_escaped c d xs = refl

-- the escape of bytes is undone to them
pub escape_undone : (bytes : List ℕ) → All (λ b. b < 256) bytes → undone (file_id bytes) ≡ Some bytes
escape_undone [] all = undone_end
escape_undone (b ∷ bytes) all = chosen (is_kept_byte b) refl (escape_undone bytes (All-tail (λ n. n < 256) b bytes all))
  where
    chosen : (t : Bool) → is_kept_byte b ≡ t → undone (file_id bytes) ≡ Some bytes → undone (escaped_byte b ++ file_id bytes) ≡ Some (b ∷ bytes)
    chosen true e rest = ap (λ l. undone (l ++ file_id bytes)) (byte_kept b e) ∙ undone_kept b (file_id bytes) e ∙ ap (before (Some b)) rest
    chosen false e rest =
        ap (λ l. undone (l ++ file_id bytes)) (byte_escaped b e) ∙ undone_escaped (hex_digit (b / 16)) (hex_digit (b % 16)) (file_id bytes)
        ∙ ap (λ o. before o (undone (file_id bytes))) (escaped_is b (All-head (λ n. n < 256) b bytes all) e) ∙ ap (before (Some b)) rest

-- ---- and back

abbrev list_or : Option (List ℕ) → List ℕ
list_or None = []
list_or (Some l) = l

abbrev byte_or : Option ℕ → ℕ
byte_or None = 0
byte_or (Some b) = b

before_some : (o : Option ℕ) (r : Option (List ℕ)) (bytes : List ℕ) → before o r ≡ Some bytes → (b : ℕ) × (rest : List ℕ) × (o ≡ Some b) × (r ≡ Some rest) × (b ∷ rest ≡ bytes)
before_some None r bytes e = cc
before_some (Some b) None bytes e = cc
before_some (Some b) (Some rest) bytes e = (b, rest, refl, refl, ap list_or e)

plain_told : (a b : ℕ) → plain a ≡ Some b → (is_kept_byte a ≡ true) × (a ≡ b)
plain_told a b = chosen (is_kept_byte a) refl
  where
    chosen : (t : Bool) → is_kept_byte a ≡ t → (if t then Some a else None) ≡ Some b → (is_kept_byte a ≡ true) × (a ≡ b)
    chosen true e f = (e, ap byte_or f)
    chosen false e f = cc

kept_small : (b : ℕ) → is_kept_byte b ≡ true → b < 256
kept_small b e = grind (arith, nat_tests)

hex_of : (d : ℕ) → is_digit d ≡ true → (digit_of d < 16) × (hex_digit (digit_of d) ≡ d)
hex_of d e = ⊎_elim
    (λ r. (grind (arith, nat_tests, r), grind (arith, nat_tests, r)))
    (λ r. (grind (arith, nat_tests, r), grind (arith, nat_tests, r)))
    (digit_is d e)

escaped_told : (c d b : ℕ) → escaped c d ≡ Some b → (hex_digit (b / 16) ≡ c) × (hex_digit (b % 16) ≡ d) × (is_kept_byte b ≡ false) × (b < 256)
escaped_told c d b = chosen (is_digit c) (is_digit d) (is_kept_byte (byte_of c d)) refl refl refl
  where
    chosen : (x y z : Bool) → is_digit c ≡ x → is_digit d ≡ y → is_kept_byte (byte_of c d) ≡ z → (if x && y && not z then Some (byte_of c d) else None) ≡ Some b
        → (hex_digit (b / 16) ≡ c) × (hex_digit (b % 16) ≡ d) × (is_kept_byte b ≡ false) × (b < 256)
    chosen false y z ec ed ez e = cc
    chosen true false z ec ed ez e = cc
    chosen true true true ec ed ez e = cc
    chosen true true false ec ed ez e =
        let is : byte_of c d ≡ b = ap byte_or e in
        let hc = hex_of c ec in
        let hd = hex_of d ed in
        let lc = hc.0 in
        let ld = hd.0 in
        let high : b / 16 ≡ digit_of c = omega (arith, is, lc, ld) in
        let low : b % 16 ≡ digit_of d = omega (arith, is, lc, ld) in
        (ap hex_digit high ∙ hc.1, ap hex_digit low ∙ hd.1, ap is_kept_byte (sym is) ∙ ez, omega (arith, is, lc, ld))

abbrev pub IsOf : List ℕ → List ℕ → Type 0
IsOf name bytes = (file_id bytes ≡ name) × All (λ b. b < 256) bytes

plain_case : (a : ℕ) (xs : List ℕ) (r : Option (List ℕ)) (bytes : List ℕ) → before (plain a) r ≡ Some bytes → ((rest : List ℕ) → r ≡ Some rest → IsOf xs rest) → IsOf (a ∷ xs) bytes
plain_case a xs r bytes e behind =
    let (b, rest, one, others, is) = before_some (plain a) r bytes e in
    let told = plain_told a b one in
    let ih = behind rest others in
    let kept : is_kept_byte b ≡ true = ap is_kept_byte (sym told.1) ∙ told.0 in
    subst (IsOf (a ∷ xs)) is
    (ap (λ l. l ++ file_id rest) (byte_kept b kept) ∙ ap (λ l. b ∷ l) ih.0 ∙ ap (λ n. n ∷ xs) (sym told.1), All-cons (λ n. n < 256) b rest (kept_small b kept) ih.1)

escaped_case : (c d : ℕ) (xs : List ℕ) (r : Option (List ℕ)) (bytes : List ℕ) → before (escaped c d) r ≡ Some bytes → ((rest : List ℕ) → r ≡ Some rest → IsOf xs rest) → IsOf (37 ∷ c ∷ d ∷ xs) bytes
escaped_case c d xs r bytes e behind =
    let (b, rest, one, others, is) = before_some (escaped c d) r bytes e in
    let told = escaped_told c d b one in
    let ih = behind rest others in
    subst (IsOf (37 ∷ c ∷ d ∷ xs)) is (
      ap (λ l. l ++ file_id rest) (byte_escaped b told.2) ∙ ap (λ l. 37 ∷ hex_digit (b / 16) ∷ hex_digit (b % 16) ∷ l) ih.0 ∙ ap (λ n. 37 ∷ n ∷ hex_digit (b % 16) ∷ xs) told.0 ∙ ap (λ n. 37 ∷ c ∷ n ∷ xs) told.1,
      All-cons (λ n. n < 256) b rest told.3 ih.1,
    )

none_of : (r : Option (List ℕ)) (rest : List ℕ) → Some [] ≡ r → r ≡ Some rest → IsOf [] rest
none_of r rest e f = subst (IsOf []) (ap list_or (e ∙ f)) (refl, All-nil (λ n. n < 256))

pub undone_told : (name bytes : List ℕ) → undone name ≡ Some bytes → IsOf name bytes
unfolding undone
undone_told [] bytes e = none_of (Some []) bytes refl e
undone_told (a ∷ []) bytes e = plain_case a [] (Some []) bytes e (λ rest f. none_of (Some []) rest refl f)
undone_told (a ∷ b ∷ []) bytes e = plain_case a (b ∷ []) (undone (b ∷ [])) bytes e (λ rest f. undone_told (b ∷ []) rest f)
undone_told (a ∷ b ∷ c ∷ xs) bytes e = chosen (a == 37) refl e (λ rest f. undone_told xs rest f) (λ rest f. undone_told (b ∷ c ∷ xs) rest f)
  where
    chosen : (t : Bool) → (a == 37) ≡ t → (if t then before (escaped b c) (undone xs) else before (plain a) (undone (b ∷ c ∷ xs))) ≡ Some bytes
        → ((rest : List ℕ) → undone xs ≡ Some rest → IsOf xs rest) → ((rest : List ℕ) → undone (b ∷ c ∷ xs) ≡ Some rest → IsOf (b ∷ c ∷ xs) rest) → IsOf (a ∷ b ∷ c ∷ xs) bytes
    chosen true t f far near =
        let is : 37 ≡ a = grind (arith, nat_tests, t) in
        subst (λ n. IsOf (n ∷ b ∷ c ∷ xs) bytes) is (escaped_case b c xs (undone xs) bytes f far)
    chosen false t f far near = plain_case a (b ∷ c ∷ xs) (undone (b ∷ c ∷ xs)) bytes f near

-- ---- what is undone is the escape of bytes

hex_small : (m n : ℕ) → m < 16 → hex_digit m ≡ hex_digit n → n < 16
hex_small m n lt e = chosen (nat_lt m 10) refl (nat_lt n 10) refl e
  where
    chosen : (s : Bool) → nat_lt m 10 ≡ s → (t : Bool) → nat_lt n 10 ≡ t → (if s then 48 + m else 55 + m) ≡ (if t then 48 + n else 55 + n) → n < 16
    chosen true a true b f = grind (arith, nat_tests, b)
    chosen true a false b f = omega (arith, lt, f)
    chosen false a true b f = grind (arith, nat_tests, b)
    chosen false a false b f = omega (arith, lt, f)

undone_small : (bytes others : List ℕ) → undone (file_id bytes) ≡ Some others → All (λ b. b < 256) bytes
undone_small [] others e = All-nil (λ n. n < 256)
undone_small (b ∷ bytes) others e = chosen (is_kept_byte b) refl e (λ rest f. undone_small bytes rest f)
  where
    chosen : (t : Bool) → is_kept_byte b ≡ t → undone (escaped_byte b ++ file_id bytes) ≡ Some others → ((rest : List ℕ) → undone (file_id bytes) ≡ Some rest → All (λ n. n < 256) bytes) → All (λ n. n < 256) (b ∷ bytes)
    chosen true k f behind =
        let whole = ap (λ l. undone (l ++ file_id bytes)) (byte_kept b k) ∙ undone_kept b (file_id bytes) k in
        let parts = before_some (Some b) (undone (file_id bytes)) others (sym whole ∙ f) in
        All-cons (λ n. n < 256) b bytes (kept_small b k) (behind parts.1 parts.3)
    chosen false k f behind =
        let high = hex_digit (b / 16) in
        let low = hex_digit (b % 16) in
        let whole = ap (λ l. undone (l ++ file_id bytes)) (byte_escaped b k) ∙ undone_escaped high low (file_id bytes) in
        let parts = before_some (escaped high low) (undone (file_id bytes)) others (sym whole ∙ f) in
        let told = escaped_told high low parts.0 parts.2 in
        let small = told.3 in
        let few : b / 16 < 16 = hex_small (parts.0 / 16) (b / 16) (omega (arith, small)) told.0 in
        All-cons (λ n. n < 256) b bytes (omega (arith, few)) (behind parts.1 parts.3)

pub back_again : (bytes others : List ℕ) → undone (file_id bytes) ≡ Some others → undone (file_id bytes) ≡ Some bytes
back_again bytes others e = escape_undone bytes (undone_small bytes others e)
