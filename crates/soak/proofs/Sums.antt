-- A sum modulo 2^32, one more byte at a time.
use Rattle.std.proofs.Common.{◌≡◌, ℕ, ◌+◌, ◌%◌, ◌^◌, ◌<◌, List, length, take, get_or, ap, sym, ◌∙◌}
use Rattle.std.specs.Prelude.{sum}
use Rattle.std.proofs.Math.Nat.{mod-add-mod}
use Rattle.std.proofs.lemmas.List.Sums.{sum_by_more}

pub next_total : (xs : List ℕ) (i total next : ℕ) → i < length xs → total ≡ sum (take i xs) % 2 ^ 32 → next ≡ (total + get_or xs i 0) % 2 ^ 32 → next ≡ sum (take (i + 1) xs) % 2 ^ 32
next_total xs i total next lt is steps =
    steps ∙ ap (λ t. (t + get_or xs i 0) % 2 ^ 32) is ∙ mod-add-mod (sum (take i xs)) (2 ^ 32) (get_or xs i 0) ∙ ap (λ n. n % 2 ^ 32) (sym (sum_by_more (λ x. x) xs i 0 lt))
