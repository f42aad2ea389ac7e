-- Numbers only grow with more digits, and are those that std reads.
use Rattle.std.proofs.Common.{◌≡◌, ℕ, ◌+◌, ◌-◌, ◌*◌, ◌<◌, ◌≤◌, List, [], ◌∷◌, length, drop, get_or, refl, sym, ap, ◌∙◌, arith, drop-cons, add-one, IsTrue}
use Rattle.std.specs.Char.{is_ascii_digit, digit_value}
use Rattle.std.specs.List.{list_all}
use Rattle.std.specs.Str.Parse.{digits_value, digits_value_after}
use Rattle.std.proofs.lemmas.List.{drop_all}
use Rattle.std.proofs.lemmas.Str.{digit_value_digit}
use Rattle.viable.specs.Numerals.{decimal, decimal_from}
use Rattle.viable.proofs.Digits.{in_range}
use Rattle.viable.proofs.Tests.{and_parts}

pub decimal_grows : (n : ℕ) (digits : List ℕ) → n ≤ decimal_from n digits
decimal_grows n [] = omega arith
decimal_grows n (d ∷ digits) = let h : n * 10 + (d - 48) ≤ decimal_from (n * 10 + (d - 48)) digits = decimal_grows (n * 10 + (d - 48)) digits in omega arith

pub decimal_next : (n i : ℕ) (digits : List ℕ) → i < length digits → decimal_from n (drop i digits) ≡ decimal_from (n * 10 + (get_or digits i 0 - 48)) (drop (i + 1) digits)
decimal_next n i digits h = ap (decimal_from n) (let e : drop i digits ≡ get_or digits i 0 ∷ drop (i + 1) digits = rw add-one (drop-cons digits i 0 h) in e)

pub decimal_exceeds : (n i limit : ℕ) (digits : List ℕ) → i < length digits → decimal_from n (drop i digits) ≡ decimal digits → (n * 10 + (get_or digits i 0 - 48) < limit → ⊥) → decimal digits < limit → ⊥
decimal_exceeds n i limit digits h e big lt =
    let g : n * 10 + (get_or digits i 0 - 48) ≤ decimal_from (n * 10 + (get_or digits i 0 - 48)) (drop (i + 1) digits) = decimal_grows (n * 10 + (get_or digits i 0 - 48)) (drop (i + 1) digits) in
    let s : decimal_from (n * 10 + (get_or digits i 0 - 48)) (drop (i + 1) digits) ≡ decimal digits = sym (decimal_next n i digits h) ∙ e in
    big (omega arith)

pub decimal_ends : (n i : ℕ) (digits : List ℕ) → length digits ≤ i → decimal_from n (drop i digits) ≡ decimal digits → n ≡ decimal digits
decimal_ends n i digits h e = let d : drop i digits ≡ [] = drop_all i digits h in (rw d at e)

-- ---- digits alone

value_from : (n : ℕ) (ds : List ℕ) → IsTrue (list_all is_ascii_digit ds) → decimal_from n ds ≡ digits_value_after 10 n ds
value_from n [] all = refl
value_from n (d ∷ ds) all =
    let v : digit_value d + 48 ≡ d = digit_value_digit d (in_range d (and_parts _ _ all).0) in
    let same : n * 10 + (d - 48) ≡ n * 10 + digit_value d = omega (arith, v) in
    ap (λ m. decimal_from m ds) same ∙ value_from (n * 10 + digit_value d) ds (and_parts _ _ all).1

pub decimal_is : (ds : List ℕ) → IsTrue (list_all is_ascii_digit ds) → decimal ds ≡ digits_value 10 ds
decimal_is ds all = value_from 0 ds all
