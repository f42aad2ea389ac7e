use Rattle.std.proofs.Common.{◌≡◌, ◌∷◌, drop, take}
use Rattle.join_source.proofs.plans.with_first.Given as goal

abbrev pub invariant-loop-slab : goal.invariant-loop-slab
invariant-loop-slab l = l.own ≡ l.fn.first ∷ take l.slab-index (drop 1 l.fn.slabs)
