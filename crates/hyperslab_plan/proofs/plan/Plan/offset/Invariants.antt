use Rattle.std.proofs.Common.{◌≡◌, ◌+◌, drop}
use Rattle.hyperslab_plan.specs.Axes.{row_at}
use Rattle.hyperslab_plan.specs.Plans.{place_of}
use Rattle.hyperslab_plan.proofs.plan.Plan.offset.Given as goal

abbrev pub invariant-loop-axis : goal.invariant-loop-axis
invariant-loop-axis l = l.at + row_at (drop l.axis-index l.self.shape.outer.items) l.row ≡ place_of l.self l.position
