use Rattle.dap_commands.proofs.Seeds.{soak-only}
use Rattle.dap_commands.proofs.command.soak_of.Goals as goal

pub returns-in-None-number_to : goal.returns-in-None-number_to
returns-in-None-number_to c = λ is. let (start, records) = soak-only c.args.start.now c.args.size.now is in c.in-None-number_to.ensures records.0 records.1

pub returns-in-None : goal.returns-in-None
returns-in-None c = λ is. let (start, records) = soak-only c.args.start.now c.args.size.now is in c.in-None.ensures start.0 start.1
