use Rattle.dap_server.proofs.Connecting.{never-read, served-so, whole-so}
use Rattle.dap_server.proofs.connection.serve_connection.Goals as goal

pub returns-in-Ok-clause-served : goal.returns-in-Ok-clause-served
returns-in-Ok-clause-served g c = served-so _ _ _ _ _ _ _ _ _ _ c.serve_requests.result c.serve_requests.ensures.serves

pub returns-in-Ok-clause-no_fault : goal.returns-in-Ok-clause-no_fault
returns-in-Ok-clause-no_fault g c =
    whole-so _ _ _ _ _ _ _ _ _ _ c.serve_requests.result _ _ _ _ c.serve_requests.ensures.serves c.serve_requests.ensures.causes (g.met.L.Source.ended_empty _)

pub returns-in-Err-clause-served : goal.returns-in-Err-clause-served
returns-in-Err-clause-served g c =
    served-so _ _ _ _ _ _ _ _ _ _ c.put_last.result
    (never-read _ _ _ _ _ _ _ _ c.memory_reply.result.now c.put_last.result (g.met.L.Link.keeps_left _ _ c.put_last.ensures.beside) c.memory_reply.ensures c.put_last.ensures.puts)
