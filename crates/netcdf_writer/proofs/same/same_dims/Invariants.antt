use Rattle.std.proofs.Common.{◌≡◌, drop}
use Rattle.std.specs.Cmp.Lexicographic.{pointwise}
use Rattle.netcdf_writer.specs.Variables.{same_dim}
use Rattle.netcdf_writer.proofs.same.same_dims.Given as goal

abbrev pub invariant-loop-k : goal.invariant-loop-k
invariant-loop-k l = pointwise same_dim (drop l.k l.a) (drop l.k l.b) ≡ pointwise same_dim l.a l.b
