use Rattle.std.proofs.Common.{◌≡◌, ℕ, ◌+◌, [], drop, map, Result}
use Rattle.dap_types.specs.Judged.{Judges}
use Rattle.dap_types.specs.Model.{scalar}
use Rattle.dap_types.specs.WellFormed.{leaf_places}
use Rattle.dap_types.specs.declared.unfit.Unfit.{Unfit}
use Rattle.dap_types.proofs.well_formed.check_columns.Given as goal

abbrev pub invariant-loop-column : goal.invariant-loop-column
invariant-loop-column l = record {
  counted : l.number ≡ l.fn.first + l.column-index;
  judged : (r : Result ℕ Unfit) → Judges (leaf_places l.depth l.names (map scalar (drop l.column-index l.columns))) l.number r
      → Judges (leaf_places l.depth [] (map scalar l.columns)) l.fn.first r;
}
