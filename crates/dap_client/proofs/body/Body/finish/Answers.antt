use Rattle.std.proofs.Common.{sym}
use Rattle.dap_client.proofs.Wrapped.{on_write_fault}
use Rattle.dap_client.specs.After.{BodyStandsAfter, form_in}
use Rattle.dap_client.proofs.body.Body.finish.Goals as goal

pub finish-requires : goal.finish-requires
unfolding BodyStandsAfter
finish-requires g c = let (bytes, put, stands) = c.requires in let (p, long, small) = stands in record { stands = (form_in c.args.self, bytes, put, p) }

pub returns-clause-finished : goal.returns-clause-finished
unfolding BodyStandsAfter
returns-clause-finished g c bytes put (p, long, small) = c.finish.ensures.finished (form_in c.args.self) bytes put (sym long) small p

pub returns-clause-fault : goal.returns-clause-fault
returns-clause-fault g c = λ is. on_write_fault _ c.finish.result is c.finish.ensures.fault
