use Rattle.std.proofs.Common.{◌≡◌, ℕ, ◌+◌, ◌-◌, ◌*◌, ◌<◌, ◌≤◌, slice_index}
use Rattle.hyperslab_plan.specs.Plans.{width_in}
use Rattle.slab_fill.specs.Elements.{batch_byte}
use Rattle.slab_fill.proofs.chunk.write_rows.Given as goal

abbrev pub invariant-loop-done : goal.invariant-loop-done
invariant-loop-done l = record {
  inside : l.done ≤ l.count;
  in_row : l.column < l.per_row;
  at : l.done < l.count → l.row * l.per_row + l.column ≡ l.first + l.done;
  filled : (k : ℕ) → k < l.done * l.width → slice_index l.part k ≡ batch_byte l.plan l.raw (l.first * width_in l.plan + k);
}

abbrev pub decreases-loop-done : goal.decreases-loop-done
decreases-loop-done l = l.count - l.done
