use Rattle.std.proofs.Common.{◌≡◌, ◌+◌, sum_by, drop}
use Rattle.netcdf_source.specs.Parts.{bare, mark, shares}
use Rattle.netcdf_source.proofs.extents.record_size.Given as goal

abbrev pub invariant-loop-variable : goal.invariant-loop-variable
invariant-loop-variable l = (l.count + sum_by (mark l.dimensions) (drop l.variable-index l.variables) ≡ sum_by (mark l.dimensions) l.variables)
    × (l.bare + sum_by (bare l.dimensions) (drop l.variable-index l.variables) ≡ sum_by (bare l.dimensions) l.variables)
    × (l.padded + shares l.dimensions (drop l.variable-index l.variables) ≡ shares l.dimensions l.variables)
