use Rattle.dap_gateway.proofs.Sending.{front-put}
use Rattle.dap_gateway.proofs.replies.put_whole.Goals as goal

pub returns-in-Err-clause-puts : goal.returns-in-Err-clause-puts
returns-in-Err-clause-puts g c = front-put _ _ c.args.bytes.now c.in-Err.ensures.err
