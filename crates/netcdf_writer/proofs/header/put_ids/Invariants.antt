use Rattle.std.proofs.Common.{◌≡◌, ◌++◌, take}
use Rattle.std.specs.List.{flat_map}
use Rattle.netcdf_source.specs.Versions.{number_bytes}
use Rattle.netcdf_writer.specs.inner.Planned.{number_in}
use Rattle.netcdf_writer.specs.inner.Printing.{width_if}
use Rattle.netcdf_writer.proofs.header.put_ids.Given as goal

abbrev pub invariant-loop-dim : goal.invariant-loop-dim
invariant-loop-dim l = l.out.items ≡ l.fn.out.items ++ flat_map (λ d. number_bytes (width_if l.is_five) (number_in l.numbers d)) (take l.dim-index l.dims)
