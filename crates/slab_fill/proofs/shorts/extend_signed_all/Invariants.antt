use Rattle.std.proofs.Common.{◌≡◌, ℕ, ◌+◌, ◌*◌, ◌<◌, slice_index}
use Rattle.slab_fill.specs.Spots.{spot, signed_word}
use Rattle.slab_fill.proofs.shorts.extend_signed_all.Given as goal

-- the word of each element below the index is written
abbrev pub invariant-loop-j : goal.invariant-loop-j
invariant-loop-j l = (e b : ℕ) → e < l.j → b < 4 → slice_index l.out (4 * e + b) ≡ slice_index (signed_word (slice_index l.raw (spot l.at 2 e)) (slice_index l.raw (spot l.at 2 e + 1))) b
