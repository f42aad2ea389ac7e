use Rattle.std.proofs.Common.{◌≡◌, drop, not}
use Rattle.std.specs.List.{list_any}
use Rattle.netcdf_writer.specs.Names.{is_file_name}
use Rattle.netcdf_writer.specs.Variables.{dim_name}
use Rattle.netcdf_writer.proofs.causes.are_misnamed.Given as goal

abbrev pub invariant-loop-dim : goal.invariant-loop-dim
invariant-loop-dim l = list_any (λ d. not (is_file_name (dim_name d))) (drop l.dim-index l.dims) ≡ list_any (λ d. not (is_file_name (dim_name d))) l.dims
