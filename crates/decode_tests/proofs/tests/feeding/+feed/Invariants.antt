use Rattle.std.proofs.Common.{length}
use Rattle.decode_tests.proofs.tests.feeding.+feed.Given as goal

abbrev pub decreases-feed : goal.decreases-feed
decreases-feed l = length l.values.now
