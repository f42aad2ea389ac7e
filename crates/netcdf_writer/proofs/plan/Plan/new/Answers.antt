use Rattle.std.proofs.Common.{refl}
use Rattle.netcdf_writer.proofs.Listing.{no_maps}
use Rattle.netcdf_writer.proofs.Planning.{none_planned}
use Rattle.netcdf_writer.proofs.plan.Plan.new.Goals as goal

pub returns : goal.returns
returns c all = none_planned _ all c.new.ensures.items c.new-2.ensures (no_maps _ c.new-3.ensures) refl refl
