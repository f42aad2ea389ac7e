use Rattle.std.proofs.Common.{sym, ◌∙◌}
use Rattle.netcdf_writer.specs.inner.Tables.{top_view}
use Rattle.netcdf_writer.proofs.Planning.{steps_to, why_some}
use Rattle.netcdf_writer.proofs.plan.Plan.add.Goals as goal

pub returns-in-Some : goal.returns-in-Some
returns-in-Some c all earlier tops so = (why_some all earlier (top_view c.args.top.now) c.in-Some.why (sym c.in_ok-why.ensures ∙ c.in-Some.is), tt)

pub returns-in-None : goal.returns-in-None
returns-in-None c all earlier tops so = steps_to c.add_variables.result _ all earlier (top_view c.args.top.now) (sym c.in_ok-why.ensures ∙ c.in-None.is) (c.add_variables.ensures all earlier tops so)
