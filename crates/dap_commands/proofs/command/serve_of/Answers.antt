use Rattle.dap_commands.proofs.Commanding.{serve-only}
use Rattle.dap_commands.proofs.command.serve_of.Goals as goal

pub returns-in-None-number_to-2 : goal.returns-in-None-number_to-2
returns-in-None-number_to-2 c = λ is. let (port, workers, requests) = serve-only c.args.port.now c.args.workers.now c.args.requests.now is in c.in-None-number_to-2.ensures requests.0 requests.1

pub returns-in-None-number_to : goal.returns-in-None-number_to
returns-in-None-number_to c = λ is. let (port, workers, requests) = serve-only c.args.port.now c.args.workers.now c.args.requests.now is in c.in-None-number_to.ensures workers.0 workers.1

pub returns-in-None : goal.returns-in-None
returns-in-None c = λ is. let (port, workers, requests) = serve-only c.args.port.now c.args.workers.now c.args.requests.now is in c.in-None.ensures port.0 port.1
