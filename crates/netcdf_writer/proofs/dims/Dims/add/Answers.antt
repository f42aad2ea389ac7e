use Rattle.std.proofs.Common.{not, sym, ap, ◌∙◌}
use Rattle.netcdf_writer.specs.inner.Tables.{under}
use Rattle.netcdf_writer.proofs.Dimensions.{added_new, added_old}
use Rattle.netcdf_writer.proofs.dims.Dims.add.Goals as goal

pub returns-in-Some : goal.returns-in-Some
returns-in-Some c earlier so =
    added_old c.args.self.now earlier c.args.dim.now c.in-Some.known.now so (ap (under c.args.self.now.known) (sym c.dim_name-name.ensures) ∙ sym c.in-Some.ensures)

pub returns : goal.returns
returns c earlier so =
    let is = c.dim_name-name.ensures in
    let more = added_new c.args.self.now (record { list = c.push.new.self; known = c.add.new.self }) earlier c.args.dim so (ap (under c.args.self.now.known) (sym is) ∙ sym c.in_default.ensures)
    c.in_ok-push.ensures.items (rw is at (rw c.items.ensures at c.in_ok-add.ensures)) in
    (sym (ap not more.0), λ _. more.1)
