use Rattle.std.proofs.Common.{ap, sym, ◌∙◌}
use Rattle.netcdf_writer.specs.Names.{undone}
use Rattle.netcdf_writer.proofs.Naming.{escape_undone, undone_told}
use Rattle.netcdf_writer.proofs.laws.names_are_undone.Goals as goal

pub returns : goal.returns
returns c = record { law = λ name bytes all. (λ e. (undone_told name bytes e).0, λ is. ap undone (sym is) ∙ escape_undone bytes all) }
