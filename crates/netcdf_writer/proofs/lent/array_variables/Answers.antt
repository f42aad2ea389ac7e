use Rattle.std.proofs.Common.{◌≤◌, length}
use Rattle.std.specs.Prelude.{min}
use Rattle.netcdf_writer.proofs.Owning.{arrays_end}
use Rattle.netcdf_writer.proofs.lent.array_variables.Goals as goal

pub returns : goal.returns
returns c =
    let le : min (length c.args.arrays.now) (length c.args.trees.now) ≤ c.loop-k.k = rw c.min-count.ensures at c.loop-k-test.false in
    arrays_end c.args.arrays.now c.args.trees.now c.loop-k.k _ _ le c.loop-k.invariant
