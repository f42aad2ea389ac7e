use Rattle.std.proofs.Common.{◌≡◌, ◌++◌, false, List, take}
use Rattle.netcdf_writer.specs.Causes.{dims_clash}
use Rattle.netcdf_writer.specs.inner.Planned.{AreDims, Dimension}
use Rattle.netcdf_writer.proofs.dims.Dims.add_each.Given as goal

abbrev pub invariant-loop-dim : goal.invariant-loop-dim
invariant-loop-dim l = (earlier : List Dimension) → AreDims l.fn.self earlier
    → (dims_clash earlier (take l.dim-index l.dims) ≡ false) × AreDims l.self (earlier ++ take l.dim-index l.dims)
