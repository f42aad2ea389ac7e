-- Where the last segment of a name starts.
use Rattle.std.proofs.Common.{◌≡◌, ◌≤◌, ◌<◌, ◌-◌, ℕ, List, length, take, get_or, refl, arith}
use Rattle.std.specs.Prelude.{not, ◌==◌}
use Rattle.std.specs.List.{suffix_len}
use Rattle.std.proofs.lemmas.List.Sums.{suffix_len-take_no}

pub nothing-behind : (xs : List ℕ) (n : ℕ) → n ≤ 0 → suffix_len (λ b. not (b == 47)) (take n xs) ≡ 0
nothing-behind xs n le = let none : n ≡ 0 = omega (arith, le) in rw none refl

pub some-behind : (xs : List ℕ) (n : ℕ) → n ≤ length xs → 0 < n → get_or xs (n - 1) 0 ≡ 47 → suffix_len (λ b. not (b == 47)) (take n xs) ≡ 0
some-behind xs n le lt is = suffix_len-take_no (λ b. not (b == 47)) xs n 0 lt le (rw is refl)
