use Rattle.dap_outside.proofs.Fronts.{on_err}
use Rattle.dap_outside.proofs.Passing.{sent_or_stopped, stopped_before}
use Rattle.xdr_decode.proofs.value_text.put_shown_text.Goals as goal

pub returns-in_err-put_escaped-clause-err : goal.returns-in_err-put_escaped-clause-err
returns-in_err-put_escaped-clause-err g c = on_err c.from_residual.result _ (stopped_before _ _ _ _ c.new-buffer.ensures c.in_err-put_escaped.ensures.puts)

pub returns-clause-ok : goal.returns-clause-ok
returns-clause-ok g c = (sent_or_stopped c.flush.result _ _ _ _ _ _ c.new-buffer.ensures c.in_ok-put_escaped.ensures.puts c.flush.ensures.ok c.flush.ensures.err).0

pub returns-clause-err : goal.returns-clause-err
returns-clause-err g c = (sent_or_stopped c.flush.result _ _ _ _ _ _ c.new-buffer.ensures c.in_ok-put_escaped.ensures.puts c.flush.ensures.ok c.flush.ensures.err).1
