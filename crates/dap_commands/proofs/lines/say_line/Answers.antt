use Rattle.dap_commands.proofs.Pieces.{one-said}
use Rattle.dap_commands.proofs.lines.say_line.Goals as goal

pub returns-in-Some-clause-said : goal.returns-in-Some-clause-said
returns-in-Some-clause-said g c = one-said _ c.in-Some.line.now c.as_bytes.result.now _ _ _ _ c.in-Some.ensures c.as_bytes.ensures.value c.say.ensures.said
