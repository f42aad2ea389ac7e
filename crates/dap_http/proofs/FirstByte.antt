-- The first place of a byte by a search of `memchr`.
use Rattle.std.proofs.Common.{◌≡◌, ℕ, ◌<◌, ◌==◌, Bool, true, false, List, length, refl, sym, arith}
use Rattle.std.specs.List.{position_or_len}
use Rattle.std.proofs.lemmas.List.Sums.{position_or_len_is}
use Rattle.memchr.specs.Find.{NoneBefore, Nowhere, Passes, is_byte}

no_true : (b : Bool) → ¬ (b ≡ true) → b ≡ false
no_true true no_proof = absurd (no_proof refl)
no_true false no_proof = refl

pub found : (wanted : ℕ) (bytes : List ℕ) (place : ℕ) → NoneBefore (Passes (is_byte wanted) bytes) 0 (length bytes) place × Passes (is_byte wanted) bytes place
    → place ≡ position_or_len (λ b. b == wanted) bytes
found wanted bytes place (first, passes) =
    sym (position_or_len_is (is_byte wanted) bytes place 0 (omega (arith, first.high)) (λ k lt. no_true _ (first.before k (omega arith) lt)) (λ lt. passes))

pub missing : (wanted : ℕ) (bytes : List ℕ) → Nowhere (Passes (is_byte wanted) bytes) 0 (length bytes) → length bytes ≡ position_or_len (λ b. b == wanted) bytes
missing wanted bytes nowhere =
    sym (position_or_len_is (is_byte wanted) bytes (length bytes) 0 (omega arith) (λ k lt. no_true _ (nowhere k (omega arith) lt)) (λ lt. absurd (omega (arith, lt))))
