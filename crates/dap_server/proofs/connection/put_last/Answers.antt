use Rattle.std.proofs.Common.{inr, refl}
use Rattle.dap_server.proofs.Puts.{part-of}
use Rattle.dap_server.proofs.connection.put_last.Goals as goal

pub returns-in-Err-clause-puts : goal.returns-in-Err-clause-puts
returns-in-Err-clause-puts g c = inr (refl, part-of _ _ c.args.bytes.now c.in-Err.ensures.err)
