use Rattle.dap_server.proofs.Puts.{part-of}
use Rattle.dap_server.proofs.put.put_reply.Goals as goal

pub returns-in-Err-clause-puts : goal.returns-in-Err-clause-puts
returns-in-Err-clause-puts g c = part-of _ _ c.args.bytes.now c.in-Err.ensures.err
