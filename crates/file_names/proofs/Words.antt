-- The names of a file become words: a name that is not empty and of bytes is escaped by plain bytes.
use Rattle.std.proofs.Common.{◌≡◌, ◌<◌, ℕ, zero, suc, inl, inr, Bool, true, ◌&&◌, ltb, List, [], ◌∷◌, ◌++◌, length, All, refl, sym, ap, ◌∙◌, arith, length-append}
use Rattle.std.specs.List.{list_all, flat_map}
use Rattle.std.proofs.lemmas.Bool.{cases_lt, and_from}
use Rattle.std.proofs.lemmas.Bool.Decides.{nat_tests}
use Rattle.std.proofs.lemmas.List.Elements.{All-head, All-tail}
use Rattle.std.proofs.lemmas.List.Folds.{list_all-append}
use Rattle.plain_lemmas.proofs.Truths.{both_true}
use Rattle.dap_types.specs.Names.{escaped_byte, file_id}
use Rattle.dap_model.specs.Tokens.{is_word, is_plain}
use Rattle.file_names.specs.Names.{dataset_name_byte}

abbrev pub IsByte : ℕ → Type 0
IsByte b = b < 256

abbrev pub AreBytes : List ℕ → Type 0
AreBytes bytes = All IsByte bytes

abbrev pub all_below : (ℕ → Bool) → ℕ → Bool
all_below test zero = true
all_below test (suc n) = test n && all_below test n

pub below : (test : ℕ → Bool) (n b : ℕ) → all_below test n ≡ true → b < n → test b ≡ true
below test zero b all lt = absurd (omega arith)
below test (suc n) b all lt =
    let p = both_true (test n) (all_below test n) all in
    elim (cases_lt b n) [
      | inl less ↦ below test n b p.1 less
      | inr more ↦ let same : n ≡ b = omega arith in ap test (sym same) ∙ p.0
    ]

-- a name that is not empty and of bytes
abbrev pub IsName : List ℕ → Type 0
IsName name = (0 < length name) × AreBytes name

-- each byte becomes a word
abbrev pub Spelled : (ℕ → List ℕ) → Type 0
Spelled f = (b : ℕ) → b < 256 → is_word (f b) ≡ true

pub escaped_spelled : Spelled escaped_byte
escaped_spelled b lt = below (λ c. is_word (escaped_byte c)) 256 b refl lt

pub dataset_spelled : Spelled dataset_name_byte
dataset_spelled b lt = below (λ c. is_word (dataset_name_byte c)) 256 b refl lt

pub word_length : (w : List ℕ) → is_word w ≡ true → 0 < length w
word_length [] e = absurd cc
word_length (b ∷ w) e = omega arith

plain_name : (f : ℕ → List ℕ) (name : List ℕ) → Spelled f → AreBytes name → list_all is_plain (flat_map f name) ≡ true
plain_name f [] spelled bytes = refl
plain_name f (b ∷ name) spelled bytes =
    list_all-append is_plain (f b) (flat_map f name)
    ∙ and_from (list_all is_plain (f b)) (list_all is_plain (flat_map f name)) (both_true (ltb 0 (length (f b))) (list_all is_plain (f b)) (spelled b (All-head IsByte b name bytes))).1 (plain_name f name spelled (All-tail IsByte b name bytes))

pub word_name : (f : ℕ → List ℕ) (name : List ℕ) → Spelled f → IsName name → is_word (flat_map f name) ≡ true
word_name f [] spelled is = absurd (omega (arith, is.0))
word_name f (b ∷ name) spelled is =
    let some : 0 < length (f b) = word_length (f b) (spelled b (All-head IsByte b name is.1)) in
    let long : 0 < length (f b ++ flat_map f name) = omega (arith, length-append (f b) (flat_map f name)) in
    and_from (ltb 0 (length (f b ++ flat_map f name))) (list_all is_plain (f b ++ flat_map f name)) (grind (arith, nat_tests, long)) (plain_name f (b ∷ name) spelled is.1)

pub file_word : (name : List ℕ) → IsName name → is_word (file_id name) ≡ true
file_word name is = word_name escaped_byte name escaped_spelled is
