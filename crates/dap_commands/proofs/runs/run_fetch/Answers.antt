use Rattle.dap_http.specs.declared.kind.Kind.TheVariants.{Dods}
use Rattle.dap_commands.proofs.runs.run_fetch.Goals as goal

pub returns : goal.returns
returns g c = record { says = λ u ces are. c.run.ensures.fetch u Dods ces are }
