use Rattle.std.proofs.Common.{◌≡◌, ℕ, ◌+◌, ◌*◌, ◌<◌, slice_index}
use Rattle.slab_fill.specs.Spots.{spot}
use Rattle.slab_fill.proofs.copies.copy_words.Given as goal

-- the bytes of each element below the index are written
abbrev pub invariant-loop-j : goal.invariant-loop-j
invariant-loop-j l = (e b : ℕ) → e < l.j → b < 4 → slice_index l.out (4 * e + b) ≡ slice_index l.raw (spot l.at l.step e + b)
