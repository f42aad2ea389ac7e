-- No field of the records of a file is longer than the file.
use Rattle.std.proofs.Common.{◌≡◌, ◌≤◌, ◌+◌, ℕ, zero, suc, Bool, true, List, [], ◌∷◌, Some, None, length, refl, arith}
use Rattle.std.specs.Prelude.{Option}
use Rattle.std.specs.List.{list_all}
use Rattle.plain_lemmas.proofs.Truths.{both_true}
use Rattle.csv.specs.Machine.{Read, next_record}
use Rattle.csv.specs.Reading.{Reached, default_config, records_from, records_next, strip_bom}
use Rattle.csv.specs.declared.parser.Config.{Config}
use Rattle.csv.specs.declared.parser.State.{State}
use Rattle.csv.specs.declared.parser.State.TheVariants as st
use Rattle.csv_source.specs.Csv.{csv_records}
use Rattle.csv_source.proofs.Recorded.{next-shrinks}
use Rattle.csv_source.proofs.Sizes.{is_within, reached-within, strip_bom-shorter}

-- each field of each record has at most n bytes
abbrev pub are_within : ℕ → List (List (List ℕ)) → Bool
are_within n records = list_all (λ r. list_all (is_within n) r) records

next-within : (cfg : Config) (n : ℕ) (s : State) (xs : List ℕ) (p : Read) → length xs ≤ n → next_record cfg s [] [] xs ≡ Some p → list_all (is_within n) p.0 ≡ true
unfolding Reached
next-within cfg n s xs p le is = (both_true (list_all (is_within n) p.0) true (reached-within cfg n s xs (p.0 ∷ []) p.1 p.2 le (p, is, refl, (refl, refl)))).0

rest-within : (cfg : Config) (n : ℕ) (s : State) (xs : List ℕ) (p : Read) → length xs ≤ n → next_record cfg s [] [] xs ≡ Some p → length p.2 ≤ n
rest-within cfg n s xs p le is =
    let (after, shorter, less) = next-shrinks cfg s [] [] xs p is in omega (arith, le, shorter)

from-within : (cfg : Config) (n fuel : ℕ) (s : State) (xs : List ℕ) → length xs ≤ n → are_within n (records_from cfg fuel s xs) ≡ true
unfolding records_from
from-within cfg n zero s xs le = refl
from-within cfg n (suc fuel) s xs le = by_next (next_record cfg s [] [] xs) refl (λ s2 ys shorter. from-within cfg n fuel s2 ys shorter)
  where
    by_next : (o : Option Read) → next_record cfg s [] [] xs ≡ o → ((s2 : State) (ys : List ℕ) → length ys ≤ n → are_within n (records_from cfg fuel s2 ys) ≡ true)
        → are_within n (records_next (records_from cfg fuel) o) ≡ true
    by_next None is later = refl
    by_next (Some p) is later = rw (next-within cfg n s xs p le is, later p.1 p.2 (rest-within cfg n s xs p le is)) refl

pub csv-within : (n : ℕ) (bytes : List ℕ) → length bytes ≤ n → are_within n (csv_records bytes) ≡ true
unfolding csv_records
csv-within n bytes le = from-within default_config n (length (strip_bom bytes) + 1) st.StartRecord (strip_bom bytes) (omega (arith, le, strip_bom-shorter bytes))
