-- Different names of a file become different names of variables.
use Rattle.std.proofs.Common.{◌≡◌, ℕ, ◌/◌, ◌%◌, Bool, true, false, cond, List, [], ◌∷◌, ◌++◌, refl, sym, ap, ◌∙◌, arith}
use Rattle.std.proofs.lemmas.Bool.Decides.{nat_tests}
use Rattle.std.proofs.lemmas.Slice.Eq.{bytes_eq-Decides}
use Rattle.std.specs.List.{list_all}
use Rattle.std.specs.Str.{bytes_eq}
use Rattle.plain_lemmas.proofs.Truths.{both_true}
use Rattle.dap_types.specs.Names.{is_kept_byte, hex_digit, escaped_byte, file_id}

digit_differs : (a b : ℕ) → hex_digit a ≡ hex_digit b → a ≡ b
digit_differs a b e = grind (arith, nat_tests)

same_byte : (a b : ℕ) → hex_digit (a / 16) ≡ hex_digit (b / 16) → hex_digit (a % 16) ≡ hex_digit (b % 16) → a ≡ b
same_byte a b e f =
    let high = digit_differs (a / 16) (b / 16) e in
    let low = digit_differs (a % 16) (b % 16) f in omega arith

kept_is : (a b : ℕ) (xs ys : List ℕ) → Path (List ℕ) (a ∷ xs) (b ∷ ys) → (a ≡ b) × (xs ≡ ys)
kept_is a b xs ys e = (cc, cc)

-- a % is never kept
pub no_percent : (b : ℕ) → is_kept_byte b ≡ true → b ≡ 37 → ⊥
no_percent b kept e = absurd_of (sym (ap is_kept_byte e) ∙ kept)
  where
    absurd_of : Path Bool false true → ⊥
    absurd_of q = cc

escaped_front : (a b : ℕ) (xs ys : List ℕ) → escaped_byte a ++ xs ≡ escaped_byte b ++ ys → (a ≡ b) × (xs ≡ ys)
escaped_front a b xs ys e = go (is_kept_byte a) (is_kept_byte b) refl refl e
  where
    escape : ℕ → List ℕ
    escape n = 37 ∷ hex_digit (n / 16) ∷ hex_digit (n % 16) ∷ []

    go : (k l : Bool) → is_kept_byte a ≡ k → is_kept_byte b ≡ l
        → cond k (a ∷ []) (37 ∷ hex_digit (a / 16) ∷ hex_digit (a % 16) ∷ []) ++ xs ≡ cond l (b ∷ []) (37 ∷ hex_digit (b / 16) ∷ hex_digit (b % 16) ∷ []) ++ ys → (a ≡ b) × (xs ≡ ys)
    go true true p q h = kept_is a b xs ys h
    go true false p q h = absurd (no_percent a p (kept_is a 37 xs _ h).0)
    go false true p q h = absurd (no_percent b q (sym (kept_is 37 b _ ys h).0))
    go false false p q h =
        let one = kept_is 37 37 _ _ h in
        let two = kept_is (hex_digit (a / 16)) (hex_digit (b / 16)) _ _ one.1 in
        let three = kept_is (hex_digit (a % 16)) (hex_digit (b % 16)) xs ys two.1 in
        (same_byte a b two.0 three.0, three.1)

escaped_some : (b : ℕ) (xs : List ℕ) → Path (List ℕ) [] (escaped_byte b ++ xs) → ⊥
escaped_some b xs e = go (is_kept_byte b) e
  where
    go : (k : Bool) → Path (List ℕ) [] (cond k (b ∷ []) (37 ∷ hex_digit (b / 16) ∷ hex_digit (b % 16) ∷ []) ++ xs) → ⊥
    go true h = cc
    go false h = cc

pub file_id_differs : (x y : List ℕ) → file_id x ≡ file_id y → x ≡ y
file_id_differs [] [] e = refl
file_id_differs [] (b ∷ y) e = absurd (escaped_some b (file_id y) e)
file_id_differs (a ∷ x) [] e = absurd (escaped_some a (file_id x) (sym e))
file_id_differs (a ∷ x) (b ∷ y) e =
    let front = escaped_front a b (file_id x) (file_id y) e in
    ap (λ (n : ℕ). n ∷ x) front.0 ∙ ap (λ (zs : List ℕ). b ∷ zs) (file_id_differs x y front.1)

-- the test of two names is that of their escapes
pub same_names : (x y : List ℕ) → bytes_eq (file_id x) (file_id y) ≡ bytes_eq x y
same_names x y = go (bytes_eq x y) refl
  where
    go : (b : Bool) → bytes_eq x y ≡ b → bytes_eq (file_id x) (file_id y) ≡ b
    go true e = (bytes_eq-Decides (file_id x) (file_id y)).1 (ap file_id ((bytes_eq-Decides x y).0 e))
    go false e = differ (bytes_eq (file_id x) (file_id y)) refl
      where
        no : Path Bool true false → ⊥
        no q = cc

        differ : (k : Bool) → bytes_eq (file_id x) (file_id y) ≡ k → k ≡ false
        differ false q = refl
        differ true q = absurd (no (sym ((bytes_eq-Decides x y).1 (file_id_differs x y ((bytes_eq-Decides (file_id x) (file_id y)).0 q))) ∙ e))

-- a name of bytes that are kept is its own escape
pub kept_name : (name : List ℕ) → list_all is_kept_byte name ≡ true → file_id name ≡ name
kept_name [] e = refl
kept_name (b ∷ name) e =
    let parts = both_true (is_kept_byte b) (list_all is_kept_byte name) e in
    ap (λ (k : Bool). cond k (b ∷ []) (37 ∷ hex_digit (b / 16) ∷ hex_digit (b % 16) ∷ []) ++ file_id name) parts.0 ∙ ap (λ (zs : List ℕ). b ∷ zs) (kept_name name parts.1)

pub ruleset kept_names = (kept_name)
