use Rattle.std.proofs.Common.{[], arith}
use Rattle.http_tests.proofs.tests.parts.gives.Goals as goal

pub next-arrived-requires : goal.next-arrived-requires
next-arrived-requires c = (_, [], c.in_ok-parts.ensures.follows, omega arith)
