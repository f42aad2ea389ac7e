use Rattle.dap_commands.proofs.Pieces.{line_said}
use Rattle.dap_commands.proofs.lines.say_server_error.Goals as goal

pub returns-clause-said : goal.returns-clause-said
returns-clause-said g c = line_said c.put_server_error.result _ _ _ _ _ c.put_server_error.ensures.ok c.put_server_error.ensures.front c.put_server_error.ensures.cause
