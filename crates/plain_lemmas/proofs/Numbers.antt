-- Numbers, and tests of them.
use Rattle.std.proofs.Common.{◌≡◌, ℕ, zero, suc, ◌+◌, ◌*◌, ◌<◌, ◌≤◌, true, false, nat_lt, eqb, ◌⊎◌, inl, inr, refl, arith}
use Rattle.std.proofs.lemmas.Bool.{eq-eqb}
use Rattle.std.proofs.lemmas.Bool.Decides.{nat_tests}

pub zero_or_more : (n : ℕ) → (n ≡ 0) ⊎ (0 < n)
zero_or_more zero = inl refl
zero_or_more (suc n) = inr (omega arith)

pub from_zero : (n : ℕ) → 0 + n ≡ n
from_zero n = omega arith

pub one_more_times : (m n : ℕ) → (m + 1) * n ≡ m * n + n
one_more_times m n = omega arith

pub equal_itself : (n : ℕ) → eqb n n ≡ true
equal_itself n = eq-eqb n n refl

pub not_less : (a b : ℕ) → b ≤ a → nat_lt a b ≡ false
not_less a b le = grind (arith, nat_tests)
