use Rattle.std.proofs.Common.{◌∙◌, sym, None}
use Rattle.std.proofs.lemmas.List.{get_or_past}
use Rattle.netcdf_source.specs.Coordinates.{AreCoordinates}
use Rattle.netcdf_source.proofs.coordinates.coordinate.Goals as goal

pub returns-then-i-table : goal.returns-then-i-table
unfolding AreCoordinates
returns-then-i-table c = sym (get_or_past c.args.table.now c.args.id None c.if-i-table.true) ∙ c.requires c.args.id

pub returns : goal.returns
unfolding AreCoordinates
returns c = c.requires c.args.id
