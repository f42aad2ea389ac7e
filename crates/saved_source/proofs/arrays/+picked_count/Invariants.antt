use Rattle.std.proofs.Common.{length}
use Rattle.saved_source.proofs.arrays.+picked_count.Given as goal

abbrev pub decreases-picked_count : goal.decreases-picked_count
decreases-picked_count l = length l.slabs.now
