use Rattle.std.proofs.Common.{◌≡◌, map, take}
use Rattle.netcdf_source.specs.inner.Told.{told_layout}
use Rattle.netcdf_source.proofs.layouts.layouts.Given as goal

abbrev pub invariant-loop-variable : goal.invariant-loop-variable
invariant-loop-variable l = l.layouts ≡ map (told_layout l.contents) (take l.variable-index l.contents.variables)
