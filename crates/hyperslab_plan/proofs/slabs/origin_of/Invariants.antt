use Rattle.std.proofs.Common.{◌≡◌, ◌+◌, drop}
use Rattle.hyperslab_plan.specs.Along.{starts}
use Rattle.hyperslab_plan.proofs.slabs.origin_of.Given as goal

abbrev pub invariant-loop-i : goal.invariant-loop-i
invariant-loop-i l = l.at + starts (drop l.i l.slabs) (drop l.i l.steps) ≡ l.base + starts l.slabs l.steps
