-- The token that a slot is printed as, and that it spells it.
use Rattle.std.proofs.Common.{◌≡◌, ℕ, ◌+◌, ◌%◌, ◌^◌, ◌<◌, ◌≤◌, List, [], ◌∷◌, ◌++◌, length, map, Bool, true, ◌&&◌, ◌==◌, nat_lt, nat_le, refl, arith}
use Rattle.std.proofs.lemmas.Bool.Decides.{nat_tests, Decides-eqb}
use Rattle.std.proofs.lemmas.Fmt.{decimal_by_steps, decimal_is_IsNumeral, decimal_nonempty, length-decimal-le}
use Rattle.std.proofs.lemmas.List.{map-append}
use Rattle.std.proofs.lemmas.Slice.Eq.{bytes_eq-Decides}
use Rattle.std.specs.Char.{is_ascii_digit}
use Rattle.std.specs.Cmp.Lexicographic.{pointwise}
use Rattle.std.specs.Fmt.{decimal}
use Rattle.std.specs.List.{list_all}
use Rattle.std.specs.Str.{str_to_ascii_lowercase}
use Rattle.std.specs.Str.Parse.{digits_value}
use Rattle.std.proofs.lemmas.Bool.{and_from}
use Rattle.plain_lemmas.proofs.Truths.{both_true}
use Rattle.dap_model.proofs.Judging.{Each, Small}
use Rattle.dap_model.specs.Grammar.{Slot, keyword, name, size, sign, spells, Judged}
use Rattle.dap_model.specs.Tokens.{Token, is_plain, is_word}
use Rattle.dap_model.specs.Tokens as token

abbrev pub told : Slot → Token
told (keyword k) = token.word k
told (name n) = token.word n
told (size n) = token.word (decimal n)
told (sign b) = token.sign b

abbrev pub all_told : List Judged → List Token
all_told js = map (λ j. told j.slot) js

pub told-append : (js ks : List Judged) → all_told (js ++ ks) ≡ all_told js ++ all_told ks
told-append js ks = map-append (λ j. told j.slot) js ks

digit_plain : (n : ℕ) → n < 10 → is_plain (48 + n) ≡ true
digit_plain n lt = grind (arith, nat_tests)

digit_digit : (n : ℕ) → n < 10 → is_ascii_digit (48 + n) ≡ true
digit_digit n lt = grind (arith, nat_tests)

all_push : (test : ℕ → Bool) (ds : List ℕ) (d : ℕ) → list_all test ds ≡ true → test d ≡ true → list_all test (ds ++ d ∷ []) ≡ true
all_push test [] d all one = and_from (test d) true one refl
all_push test (x ∷ ds) d all one = let both = both_true (test x) (list_all test ds) all in and_from (test x) (list_all test (ds ++ d ∷ [])) both.0 (all_push test ds d both.1 one)

digits_pass : (test : ℕ → Bool) → ((n : ℕ) → n < 10 → test (48 + n) ≡ true) → (n : ℕ) → n < 2 ^ 64 → list_all test (decimal n) ≡ true
digits_pass test each n lt =
    decimal_by_steps (λ n ds. list_all test ds ≡ true) (λ n one. and_from (test (48 + n)) true (each n one) refl)
    (λ n ds large all. all_push test ds (48 + n % 10) all (each (n % 10) (omega arith))) n lt

pub decimal_word : (n : ℕ) → n ≤ 2147483647 → is_word (decimal n) ≡ true
decimal_word n small =
    let some = decimal_nonempty n (omega arith) in
    let long : nat_lt 0 (length (decimal n)) ≡ true = grind (arith, nat_tests) in and_from (nat_lt 0 (length (decimal n))) (list_all is_plain (decimal n)) long (digits_pass is_plain digit_plain n (omega arith))

size_told : (n : ℕ) → n ≤ 2147483647 → spells (size n) (token.word (decimal n)) ≡ true
size_told n small =
    let w : List ℕ = decimal n in
    let some = decimal_nonempty n (omega arith) in
    let few = length-decimal-le 10 n (omega arith) (omega arith) (omega arith) in
    let a : nat_le 1 (length w) ≡ true = grind (arith, nat_tests) in
    let b : nat_le (length w) 10 ≡ true = grind (arith, nat_tests) in
    let c : list_all is_ascii_digit w ≡ true = digits_pass is_ascii_digit digit_digit n (omega arith) in
    let d : (digits_value 10 w == n) ≡ true = (Decides-eqb (digits_value 10 w) n).1 (decimal_is_IsNumeral n (omega arith)).1 in
    let e : nat_le n 2147483647 ≡ true = grind (arith, nat_tests) in
    and_from (nat_le 1 (length w) && nat_le (length w) 10 && list_all is_ascii_digit w && digits_value 10 w == n) (nat_le n 2147483647)
    (and_from (nat_le 1 (length w) && nat_le (length w) 10 && list_all is_ascii_digit w) (digits_value 10 w == n)
    (and_from (nat_le 1 (length w) && nat_le (length w) 10) (list_all is_ascii_digit w) (and_from (nat_le 1 (length w)) (nat_le (length w) 10) a b) c) d) e

slot_told : (s : Slot) → Small s → spells s (told s) ≡ true
slot_told (keyword k) small = (bytes_eq-Decides (str_to_ascii_lowercase k) (str_to_ascii_lowercase k)).1 refl
slot_told (name n) small = (bytes_eq-Decides n n).1 refl
slot_told (size n) small = size_told n small
slot_told (sign b) small = (Decides-eqb b b).1 refl

-- slots are spelled by what they are printed as
pub spelled_told : (js : List Judged) → Each (λ j. Small j.slot) js → pointwise spells (map (λ j. j.slot) js) (all_told js) ≡ true
spelled_told [] each = refl
spelled_told (j ∷ js) each = and_from (spells j.slot (told j.slot)) (pointwise spells (map (λ k. k.slot) js) (all_told js)) (slot_told j.slot each.0) (spelled_told js each.1)
