use Rattle.std.proofs.Common.{length, ap, ◌∙◌}
use Rattle.std.proofs.lemmas.List.{length-map}
use Rattle.netcdf_writer.specs.inner.Tables.{variable_view, variable_views}
use Rattle.netcdf_writer.proofs.Headers.{header_parts, seven_put}
use Rattle.netcdf_writer.proofs.Listing.{five_views}
use Rattle.netcdf_writer.proofs.header.put_header.Goals as goal

pub returns : goal.returns
returns c =
    seven_put _ _ _ _ _ _ _ _ _ _ _ _ _ _ _ _ c.in_ok-put_magic.ensures c.in_ok-put_number.ensures c.in_ok-put_head.ensures (rw c.items-2.ensures at c.in_ok-put_dimensions.ensures) c.in_ok-put_head-2.ensures c.in_ok-put_head-3.ensures c.in_ok-put_variables.ensures
    (header_parts c.args.front (variable_views c.args.variables.now) c.args.dims.now c.is_five-is_five.result _ _ (c.is_five-is_five.ensures ∙ five_views c.args.variables.now) c.requires.dims (ap length c.items.ensures) (length-map c.args.variables.now variable_view))
