use Rattle.dap_commands.proofs.BothEnds.{answered-is-good}
use Rattle.dap_commands.proofs.laws.answered_is_good.Goals as goal

pub returns : goal.returns
returns c = record { law = answered-is-good }
