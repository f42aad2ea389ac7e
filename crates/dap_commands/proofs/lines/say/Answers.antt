use Rattle.dap_commands.proofs.Pieces.{line_said}
use Rattle.dap_commands.proofs.lines.say.Goals as goal

pub returns-clause-said : goal.returns-clause-said
returns-clause-said g c = line_said c.put_each.result _ _ _ _ _ c.put_each.ensures.ok c.put_each.ensures.err c.put_each.ensures.cause
