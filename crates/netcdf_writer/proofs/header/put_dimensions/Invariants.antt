use Rattle.std.proofs.Common.{◌≡◌, ◌++◌, take}
use Rattle.std.specs.List.{flat_map}
use Rattle.netcdf_writer.specs.File.{dimension}
use Rattle.netcdf_writer.specs.Printer.{dimension_bytes}
use Rattle.netcdf_writer.specs.inner.Printing.{width_if}
use Rattle.netcdf_writer.proofs.header.put_dimensions.Given as goal

abbrev pub invariant-loop-dim : goal.invariant-loop-dim
invariant-loop-dim l = l.out.items ≡ l.fn.out.items ++ flat_map (λ d. dimension_bytes (width_if l.is_five) (dimension d.now)) (take l.dim-index l.dims)
