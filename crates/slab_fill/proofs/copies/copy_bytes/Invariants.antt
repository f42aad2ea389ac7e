use Rattle.std.proofs.Common.{◌≡◌, ℕ, ◌<◌, slice_index}
use Rattle.slab_fill.specs.Spots.{spot}
use Rattle.slab_fill.proofs.copies.copy_bytes.Given as goal

abbrev pub invariant-loop-j : goal.invariant-loop-j
invariant-loop-j l = (k : ℕ) → k < l.j → slice_index l.out k ≡ slice_index l.raw (spot l.at l.step k)
