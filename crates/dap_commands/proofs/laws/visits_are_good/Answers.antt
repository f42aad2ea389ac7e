use Rattle.dap_commands.proofs.Visited.{visits-are-good}
use Rattle.dap_commands.proofs.laws.visits_are_good.Goals as goal

pub returns : goal.returns
returns g c = record { law = visits-are-good }
