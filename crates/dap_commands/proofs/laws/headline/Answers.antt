use Rattle.dap_commands.proofs.Headlines.{headline}
use Rattle.dap_commands.proofs.laws.headline.Goals as goal

pub returns : goal.returns
returns g c = record { law = headline }
