use Rattle.std.proofs.Common.{◌≡◌, ◌++◌, drop, map}
use Rattle.std.specs.List.{zip}
use Rattle.dap_types.specs.declared.declarations.Dim.{Dim}
use Rattle.dap_types.specs.declared.slabs.Slab.{Slab}
use Rattle.grid_projection.proofs.copies.counted.Given as goal

abbrev pub invariant-loop-k : goal.invariant-loop-k
invariant-loop-k l =
    l.dims ++ map (λ (p : Dim × Slab). record p.0 { size = p.1.count }) (zip (drop l.k l.array.dims) (drop l.k l.slabs))
    ≡ map (λ (p : Dim × Slab). record p.0 { size = p.1.count }) (zip l.array.dims l.slabs)
