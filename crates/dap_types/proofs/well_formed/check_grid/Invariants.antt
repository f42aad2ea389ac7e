use Rattle.std.proofs.Common.{◌≡◌, ℕ, ◌+◌, [], ◌∷◌, drop, map, Result}
use Rattle.dap_types.specs.Judged.{Judges}
use Rattle.dap_types.specs.Model.{array}
use Rattle.dap_types.specs.WellFormed.{leaf_places}
use Rattle.dap_types.specs.declared.unfit.Unfit.{Unfit}
use Rattle.dap_types.proofs.well_formed.check_grid.Given as goal

abbrev pub invariant-loop-map : goal.invariant-loop-map
invariant-loop-map l = record {
  counted : l.number ≡ l.fn.first + 1 + l.map-index;
  judged : (r : Result ℕ Unfit) → Judges (leaf_places l.depth l.names (map array (drop l.map-index l.maps))) l.number r
      → Judges (leaf_places l.depth [] (map array (l.fn.array ∷ l.maps))) l.fn.first r;
}
