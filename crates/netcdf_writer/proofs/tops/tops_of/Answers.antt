use Rattle.std.proofs.Common.{◌≤◌, length}
use Rattle.std.specs.Prelude.{min}
use Rattle.netcdf_writer.proofs.Owning.{tops_end}
use Rattle.netcdf_writer.proofs.tops.tops_of.Goals as goal

pub returns : goal.returns
returns c =
    let le : min (length c.args.decls.now) (length c.args.trees.now) ≤ c.loop-k.k = rw c.min-count.ensures at c.loop-k-test.false in
    tops_end c.args.decls.now c.args.trees.now c.loop-k.k _ _ le c.loop-k.invariant
