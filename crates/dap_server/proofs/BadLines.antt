-- Lines that name no file, or one without a header, in files that are told, and what was asked up to them.
use Rattle.std.proofs.Common.{◌≡◌, ℕ, zero, suc, ◌+◌, ◌-◌, ◌<◌, ◌≤◌, Bool, true, false, List, [], ◌∷◌, drop, length, Option, Some, None, Result, Ok, Err, refl, sym, ap, ◌∙◌, subst, arith}
use Rattle.std.specs.Prelude.{nat_lt, sum_by, take}
use Rattle.std.proofs.lemmas.Bool.Decides.{nat_tests}
use Rattle.std.proofs.lemmas.List.Sums.{sum_by-cons}
use Rattle.std.proofs.lemmas.List.{length-drop}
use Rattle.plain_lemmas.proofs.Lists.{cons_first}
use Rattle.dap_errors.specs.declared.cause.Cause.{Cause}
use Rattle.dap_outside.specs.Files.{Told}
use Rattle.dap_server.proofs.OneJoin.{member_one}
use Rattle.dap_server.specs.Costs.{IsBadAmong}
use Rattle.dap_server.specs.Joins.{IsMember, Member}
use Rattle.dap_server.specs.inner.Members.{AsksToBad, most_in_first, most_in_line}

-- none of the first k lines is one
abbrev pub NoneBad : Told → List (List ℕ) → ℕ → Type 0
NoneBad told names k = (line : ℕ) → IsBadAmong told names line → k < line

from_one : (told : Told) (names : List (List ℕ)) (line : ℕ) → IsBadAmong told names line → 0 < line
from_one None names line bad = absurd bad
from_one (Some files) names line (before, name, rest, cause, number, at, is) = omega (arith, number)

pub none_bad : (told : Told) (names : List (List ℕ)) → NoneBad told names 0
none_bad told names = λ line bad. from_one told names line bad

-- a line whose file has a header is none
good_line : (told : Told) (names rest : List (List ℕ)) (k line : ℕ) (name : List ℕ) (m : Member) → drop k names ≡ name ∷ rest → IsMember told (k + 1) name (Ok m) → IsBadAmong told names line → line ≡ k + 1 → ⊥
good_line None names rest k line name m here is bad same = absurd bad
good_line (Some files) names rest k line name m here is (before, other, others, cause, number, at, not) same =
    let on : before ≡ k = omega (arith, number, same) in
    let twice : name ∷ rest ≡ other ∷ others = sym here ∙ ap (λ n. drop n names) (sym on) ∙ at in
    let alike : name ≡ other = cons_first name other rest others twice in
    let bad : IsMember (Some files) (k + 1) name (Err cause) = subst (λ n. IsMember (Some files) (k + 1) n (Err cause)) (sym alike) (subst (λ n. IsMember (Some files) n other (Err cause)) same not) in
    cc (member_one files (k + 1) name (Ok m) (Err cause) is bad)

behind : (k line : ℕ) → k < line → (line ≡ k + 1 → ⊥) → k + 1 < line
behind k line lt not = go (nat_lt (k + 1) line) refl where
  go : (b : Bool) → nat_lt (k + 1) line ≡ b → k + 1 < line
  go true is = grind (arith, nat_tests, is)
  go false is = absurd (not (grind (arith, nat_tests, is, lt)))

pub one_more_good : (told : Told) (names rest : List (List ℕ)) (k : ℕ) (name : List ℕ) (m : Member) → drop k names ≡ name ∷ rest → IsMember told (k + 1) name (Ok m) → NoneBad told names k → NoneBad told names (k + 1)
one_more_good told names rest k name m here is so_far = λ line bad. behind k line (so_far line bad) (good_line told names rest k line name m here is bad)

-- of more lines no less
first_upto : (told : Told) (k line : ℕ) (names : List (List ℕ)) → k ≤ line → most_in_first told k names ≤ most_in_first told line names
first_upto told zero line [] few = omega arith
first_upto told zero line (name ∷ names) few = omega arith
first_upto told (suc k) zero names few = omega (arith, few)
first_upto told (suc k) (suc line) [] few = omega arith
first_upto told (suc k) (suc line) (name ∷ names) few =
    omega (
      arith,
      sum_by-cons (λ n. most_in_line told n) name (take k names),
      sum_by-cons (λ n. most_in_line told n) name (take line names),
      first_upto told k line names (omega (arith, few)),
    )

-- where the lines before the one that is looked at are good, a bad one is that or one behind it
pub to_bad : (told : Told) (names : List (List ℕ)) (k start now : ℕ) → NoneBad told names k → now ≤ start + most_in_first told (k + 1) names → AsksToBad told names start now
to_bad told names k start now good asked = λ line bad. omega (arith, asked, first_upto told (k + 1) line names (omega (arith, good line bad)))

inside : (told : Told) (names : List (List ℕ)) (line : ℕ) → IsBadAmong told names line → line ≤ length names
inside None names line bad = absurd bad
inside (Some files) names line (before, name, rest, cause, number, at, is) =
    let long : length names - before ≡ length (name ∷ rest) = sym (length-drop before names) ∙ ap length at in
    let some : 1 ≤ length (name ∷ rest) = omega arith in
    omega (arith, number, long, some)

-- where all are good there is none
pub none_left : (told : Told) (names : List (List ℕ)) (k start now : ℕ) → length names ≤ k → NoneBad told names k → AsksToBad told names start now
none_left told names k start now end good = λ line bad. omega (arith, end, good line bad, inside told names line bad)
