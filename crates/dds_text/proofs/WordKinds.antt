-- What a word is: a type, `Structure`, `Sequence` or `Grid`, or a size.
use Rattle.std.proofs.Common.{◌≡◌, ℕ, List, length, [], ◌∷◌, Bool, true, false, ◌&&◌, ◌==◌, nat_le, find, Option, Some, None, refl, ap, ◌∙◌, sym, subst, arith}
use Rattle.std.proofs.lemmas.Bool.{and_from}
use Rattle.std.proofs.lemmas.Bool.Decides.{Decides-eqb, nat_tests}
use Rattle.std.proofs.lemmas.Option.{cond_some}
use Rattle.std.proofs.lemmas.Slice.Eq.{bytes_eq-Decides}
use Rattle.std.specs.Char.{is_ascii_digit}
use Rattle.std.specs.List.{list_all}
use Rattle.std.specs.Str.{str_to_ascii_lowercase, str_eq_ignore_ascii_case, bytes_eq}
use Rattle.std.specs.Str.Parse.{digits_value}
use Rattle.plain_lemmas.proofs.Lists.{found_passes}
use Rattle.plain_lemmas.proofs.Truths.{both_true}
use Rattle.viable.specs.Numerals.{is_numeral}
use Rattle.dap_types.specs.declared.declarations.BaseType.{BaseType}
use Rattle.dap_types.specs.declared.declarations.BaseType.TheVariants.{Byte, Int16, UInt16, Int32, UInt32, Float32, Float64, Text, Url}
use Rattle.dap_model.specs.Dds.{type_word}
use Rattle.dap_model.specs.Grammar.{keyword, size, spells}
use Rattle.dap_model.specs.Tokens as token
use Rattle.text_lines.specs.TypeWords.{base_of_word}
use Rattle.dds_text.specs.inner.Machine.{kind_word, kind_of_word, is_size_word, size_of_word}
use Rattle.dds_text.specs.inner.States.{Kind, structures, sequences, grids}

-- the same by the word in lower case
abbrev base_of_lower : List ℕ → Option BaseType
base_of_lower w = find (λ base. bytes_eq (str_to_ascii_lowercase (type_word base)) w) (Byte ∷ Int16 ∷ UInt16 ∷ Int32 ∷ UInt32 ∷ Float32 ∷ Float64 ∷ Text ∷ Url ∷ [])

abbrev kind_of_lower : List ℕ → Option Kind
kind_of_lower w = find (λ kind. bytes_eq (str_to_ascii_lowercase (kind_word kind)) w) (structures ∷ sequences ∷ grids ∷ [])

lower_of : (k w : List ℕ) → str_eq_ignore_ascii_case k w ≡ true → str_to_ascii_lowercase k ≡ str_to_ascii_lowercase w
lower_of k w is = (bytes_eq-Decides (str_to_ascii_lowercase k) (str_to_ascii_lowercase w)).0 is

base_of_its_word : (base : BaseType) → base_of_lower (str_to_ascii_lowercase (type_word base)) ≡ Some base
base_of_its_word Byte = refl
base_of_its_word Int16 = refl
base_of_its_word UInt16 = refl
base_of_its_word Int32 = refl
base_of_its_word UInt32 = refl
base_of_its_word Float32 = refl
base_of_its_word Float64 = refl
base_of_its_word Text = refl
base_of_its_word Url = refl

pub is_type_word : (base : BaseType) (w : List ℕ) → spells (keyword (type_word base)) (token.word w) ≡ true → base_of_word w ≡ Some base
is_type_word base w is = ap base_of_lower (sym (lower_of (type_word base) w is)) ∙ base_of_its_word base

kind_of_its_word : (kind : Kind) → (base_of_lower (str_to_ascii_lowercase (kind_word kind)) ≡ None) × (kind_of_lower (str_to_ascii_lowercase (kind_word kind)) ≡ Some kind)
kind_of_its_word structures = (refl, refl)
kind_of_its_word sequences = (refl, refl)
kind_of_its_word grids = (refl, refl)

pub is_kind_word : (kind : Kind) (w : List ℕ) → spells (keyword (kind_word kind)) (token.word w) ≡ true → (base_of_word w ≡ None) × (kind_of_word w ≡ Some kind)
is_kind_word kind w is =
    let lower = sym (lower_of (kind_word kind) w is) in
    (ap base_of_lower lower ∙ (kind_of_its_word kind).0, ap kind_of_lower lower ∙ (kind_of_its_word kind).1)

pub type_word_is : (base : BaseType) (w : List ℕ) → base_of_word w ≡ Some base → spells (keyword (type_word base)) (token.word w) ≡ true
type_word_is base w is = found_passes (λ b. str_eq_ignore_ascii_case (type_word b) w) (Byte ∷ Int16 ∷ UInt16 ∷ Int32 ∷ UInt32 ∷ Float32 ∷ Float64 ∷ Text ∷ Url ∷ []) base is

pub kind_word_is : (kind : Kind) (w : List ℕ) → kind_of_word w ≡ Some kind → spells (keyword (kind_word kind)) (token.word w) ≡ true
kind_word_is kind w is = found_passes (λ k. str_eq_ignore_ascii_case (kind_word k) w) (structures ∷ sequences ∷ grids ∷ []) kind is

swapped : (a b : Bool) → (a && b) ≡ (b && a)
swapped true true = refl
swapped true false = refl
swapped false true = refl
swapped false false = refl

numeral_is : (w : List ℕ) → (nat_le 1 (length w) && nat_le (length w) 10 && list_all is_ascii_digit w) ≡ is_numeral 10 w
numeral_is [] = refl
numeral_is (x ∷ xs) =
    let some : nat_le 1 (length (x ∷ xs)) ≡ true = grind (arith, nat_tests) in
    rw some (swapped (nat_le (length (x ∷ xs)) 10) (list_all is_ascii_digit (x ∷ xs)))

-- a size
pub is_size : (n : ℕ) (w : List ℕ) → spells (size n) (token.word w) ≡ true → size_of_word w ≡ Some n
is_size n w is =
    let whole = both_true (nat_le 1 (length w) && nat_le (length w) 10 && list_all is_ascii_digit w && digits_value 10 w == n) (nat_le n 2147483647) is in
    let last = both_true (nat_le 1 (length w) && nat_le (length w) 10 && list_all is_ascii_digit w) (digits_value 10 w == n) whole.0 in
    let value : digits_value 10 w ≡ n = (Decides-eqb (digits_value 10 w) n).0 last.1 in
    let small : nat_le (digits_value 10 w) 2147483647 ≡ true = subst (λ k. nat_le k 2147483647 ≡ true) (sym value) whole.1 in
    let test : is_size_word w ≡ true = and_from (is_numeral 10 w) (nat_le (digits_value 10 w) 2147483647) (sym (numeral_is w) ∙ last.0) small in
    rw test (ap Some value)

pub size_is : (n : ℕ) (w : List ℕ) → size_of_word w ≡ Some n → spells (size n) (token.word w) ≡ true
size_is n w is =
    let (test, value) = cond_some (is_size_word w) (digits_value 10 w) n is in
    let parts = both_true (is_numeral 10 w) (nat_le (digits_value 10 w) 2147483647) test in
    and_from (nat_le 1 (length w) && nat_le (length w) 10 && list_all is_ascii_digit w && digits_value 10 w == n) (nat_le n 2147483647)
    (and_from (nat_le 1 (length w) && nat_le (length w) 10 && list_all is_ascii_digit w) (digits_value 10 w == n) (numeral_is w ∙ parts.0) ((Decides-eqb (digits_value 10 w) n).1 value))
    (subst (λ k. nat_le k 2147483647 ≡ true) value parts.1)
