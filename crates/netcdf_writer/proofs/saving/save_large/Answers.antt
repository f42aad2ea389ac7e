use Rattle.std.proofs.Common.{sym, subst}
use Rattle.netcdf_writer.proofs.Bodies.{large}
use Rattle.netcdf_writer.specs.inner.Reading.{IsOfLarge}
use Rattle.netcdf_writer.proofs.saving.save_large.Goals as goal

pub returns : goal.returns
returns c = subst (IsOfLarge c.args.body.now) (sym c.large_of.ensures) (large c.args.body.now c.judged_front.result c.requires c.judged_front.ensures)
