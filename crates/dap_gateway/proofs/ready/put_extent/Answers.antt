use Rattle.std.proofs.Common.{sym}
use Rattle.std.proofs.lemmas.Result.{on_err_weaker}
use Rattle.dap_gateway.proofs.Sending.{front-put}
use Rattle.dap_gateway.proofs.ready.put_extent.Goals as goal

pub returns-in-HeadAlone-clause-err : goal.returns-in-HeadAlone-clause-err
returns-in-HeadAlone-clause-err g c = rw (c.in-HeadAlone.is, sym c.bytes.ensures) (on_err_weaker c.put_all.result (front-put _ _ c.bytes.result.now) c.put_all.ensures.err)
