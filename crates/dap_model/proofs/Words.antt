-- What a token can spell: a name and a size are that of their word, and keywords are told apart.
use Rattle.std.proofs.Common.{◌≡◌, ℕ, List, length, true, false, ◌&&◌, ◌==◌, nat_le, sum, if◌then◌else◌, refl, ap, ◌∙◌, sym, codes}
use Rattle.std.proofs.lemmas.Bool.{false≢true}
use Rattle.std.proofs.lemmas.Bool.Decides.{Decides-eqb}
use Rattle.std.proofs.lemmas.Slice.Eq.{bytes_eq-Decides}
use Rattle.std.specs.Char.{is_ascii_digit}
use Rattle.std.specs.List.{list_all}
use Rattle.std.specs.Str.{str_to_ascii_lowercase}
use Rattle.std.specs.Str.Parse.{digits_value}
use Rattle.plain_lemmas.proofs.Truths.{both_true}
use Rattle.dap_types.specs.declared.declarations.BaseType.{BaseType}
use Rattle.dap_types.specs.declared.declarations.BaseType.TheVariants.{Byte, Int16, UInt16, Int32, UInt32, Float32, Float64, Text, Url}
use Rattle.dap_model.specs.Dds.{type_word}
use Rattle.dap_model.specs.Grammar.{keyword, name, size, sign, spells}
use Rattle.dap_model.specs.Tokens.{Token}
use Rattle.dap_model.specs.Tokens as token

pub same_name : (n n' : List ℕ) (t : Token) → spells (name n) t ≡ true → spells (name n') t ≡ true → n ≡ n'
same_name n n' (token.sign c) a b = absurd (false≢true a)
same_name n n' (token.word w) a b = (bytes_eq-Decides n w).0 a ∙ sym ((bytes_eq-Decides n' w).0 b)

size_of_word : (n : ℕ) (w : List ℕ) → spells (size n) (token.word w) ≡ true → digits_value 10 w ≡ n
size_of_word n w is =
    let whole = both_true (nat_le 1 (length w) && nat_le (length w) 10 && list_all is_ascii_digit w && digits_value 10 w == n) (nat_le n 2147483647) is in
    let last = both_true (nat_le 1 (length w) && nat_le (length w) 10 && list_all is_ascii_digit w) (digits_value 10 w == n) whole.0 in
    (Decides-eqb (digits_value 10 w) n).0 last.1

pub same_size : (n n' : ℕ) (t : Token) → spells (size n) t ≡ true → spells (size n') t ≡ true → n ≡ n'
same_size n n' (token.sign c) a b = absurd (false≢true a)
same_size n n' (token.word w) a b = sym (size_of_word n w a) ∙ size_of_word n' w b

pub same_keyword : (k k' : List ℕ) (t : Token) → spells (keyword k) t ≡ true → spells (keyword k') t ≡ true → str_to_ascii_lowercase k ≡ str_to_ascii_lowercase k'
same_keyword k k' (token.sign c) a b = absurd (false≢true a)
same_keyword k k' (token.word w) a b =
    (bytes_eq-Decides (str_to_ascii_lowercase k) (str_to_ascii_lowercase w)).0 a ∙ sym ((bytes_eq-Decides (str_to_ascii_lowercase k') (str_to_ascii_lowercase w)).0 b)

pub same_sign : (b c : ℕ) (t : Token) → spells (sign b) t ≡ true → spells (sign c) t ≡ true → b ≡ c
same_sign b c (token.word w) x y = absurd (false≢true x)
same_sign b c (token.sign s) x y = (Decides-eqb b s).0 x ∙ sym ((Decides-eqb c s).0 y)

pub apart_signs : (b c : ℕ) → (b == c) ≡ false → (t : Token) → spells (sign b) t ≡ true → spells (sign c) t ≡ true → ⊥
apart_signs b c apart t x y = false≢true (sym apart ∙ (Decides-eqb b c).1 (same_sign b c t x y))

pub no_sign_keyword : (b : ℕ) (k : List ℕ) (t : Token) → spells (sign b) t ≡ true → spells (keyword k) t ≡ true → ⊥
no_sign_keyword b k (token.word w) x y = false≢true x
no_sign_keyword b k (token.sign s) x y = false≢true y

-- a keyword by the sum of its bytes in lower case
abbrev key : List ℕ → ℕ
key lower = sum lower

abbrev type_of : ℕ → BaseType
type_of k =
    if k == 436 then Byte else if k == 434 then Int16 else if k == 551 then UInt16 else if k == 432 then Int32 else if k == 549 then UInt32
    else if k == 635 then Float32 else if k == 640 then Float64 else if k == 663 then Text else Url

type_of_word : (base : BaseType) → type_of (key (str_to_ascii_lowercase (type_word base))) ≡ base
type_of_word Byte = refl
type_of_word Int16 = refl
type_of_word UInt16 = refl
type_of_word Int32 = refl
type_of_word UInt32 = refl
type_of_word Float32 = refl
type_of_word Float64 = refl
type_of_word Text = refl
type_of_word Url = refl

pub same_type : (base base' : BaseType) → str_to_ascii_lowercase (type_word base) ≡ str_to_ascii_lowercase (type_word base') → base ≡ base'
same_type base base' same = sym (type_of_word base) ∙ ap (λ w. type_of (key w)) same ∙ type_of_word base'

-- the kinds of members: with a type word, a Structure, a Grid, a Sequence
abbrev pub kind : List ℕ → ℕ
kind lower = if key lower == 1009 then 1 else if key lower == 422 then 2 else if key lower == 857 then 3 else 0

pub type_kind : (base : BaseType) → kind (str_to_ascii_lowercase (type_word base)) ≡ 0
type_kind Byte = refl
type_kind Int16 = refl
type_kind UInt16 = refl
type_kind Int32 = refl
type_kind UInt32 = refl
type_kind Float32 = refl
type_kind Float64 = refl
type_kind Text = refl
type_kind Url = refl

pub structure_kind : kind (str_to_ascii_lowercase (codes "Structure")) ≡ 1
structure_kind = refl

pub grid_kind : kind (str_to_ascii_lowercase (codes "Grid")) ≡ 2
grid_kind = refl

pub sequence_kind : kind (str_to_ascii_lowercase (codes "Sequence")) ≡ 3
sequence_kind = refl

pub kinds_apart : (x y : List ℕ) (k k' : ℕ) → kind x ≡ k → kind y ≡ k' → (k == k') ≡ false → kind x ≡ kind y → ⊥
kinds_apart x y k k' is is' apart same = false≢true (sym apart ∙ (Decides-eqb k k').1 (sym is ∙ same ∙ is'))
