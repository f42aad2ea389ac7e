use Rattle.std.proofs.Common.{◌≡◌, drop}
use Rattle.netcdf_source.specs.inner.Shapes.{all_same, same_variable}
use Rattle.netcdf_source.proofs.joining.same_variables.Given as goal

abbrev pub invariant-loop-i : goal.invariant-loop-i
invariant-loop-i l = all_same same_variable (drop l.i l.one) (drop l.i l.other) ≡ all_same same_variable l.one l.other
