use Rattle.std.proofs.Common.{◌≡◌, ℕ, ◌<◌, ◌≤◌, drop, length}
use Rattle.hyperslab_plan.specs.Along.{rel}
use Rattle.hyperslab_plan.specs.Picked.{count_of, cost_of}
use Rattle.hyperslab_plan.specs.Shapes.{elements, rel_at, row_cost}
use Rattle.hyperslab_plan.proofs.slabs.shape_of.Given as goal

abbrev pub invariant-loop-i : goal.invariant-loop-i
invariant-loop-i l = record {
  inside : l.i < length l.slabs;
  elements : elements l.shape ≡ count_of (drop l.i l.slabs);
  places : (p : ℕ) → p < count_of (drop l.i l.slabs) → rel_at l.shape p ≡ rel (drop l.i l.slabs) (drop l.i l.steps) p;
  cost : row_cost l.shape l.size ≤ cost_of (drop l.i l.slabs) l.size;
}

abbrev pub decreases-loop-i : goal.decreases-loop-i
decreases-loop-i l = l.i
