use Rattle.std.proofs.Common.{◌≡◌, drop}
use Rattle.netcdf_source.specs.inner.Shapes.{all_same, same_dimension}
use Rattle.netcdf_source.proofs.joining.same_dimensions.Given as goal

abbrev pub invariant-loop-i : goal.invariant-loop-i
invariant-loop-i l = all_same same_dimension (drop l.i l.one) (drop l.i l.other) ≡ all_same same_dimension l.one l.other
