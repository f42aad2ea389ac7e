use Rattle.std.proofs.Common.{length}
use Rattle.decode_tests.proofs.tests.judging.+judge.Given as goal

abbrev pub decreases-judge : goal.decreases-judge
decreases-judge l = length l.values.now
