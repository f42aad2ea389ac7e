use Rattle.std.proofs.Common.{codes}
use Rattle.std.specs.Fmt.{decimal}
use Rattle.dap_outside.proofs.Fronts.{err_front, front_of, on_err}
use Rattle.dap_client.proofs.reader.put_count.Goals as goal

pub returns-in_err-put_all-clause-err : goal.returns-in_err-put_all-clause-err
returns-in_err-put_all-clause-err g c = on_err c.from_residual.result _ (front_of _ _ (codes "complete ") (decimal c.args.bytes) c.in_err-put_all.ensures.err)

pub returns-clause-err : goal.returns-clause-err
returns-clause-err g c = err_front c.put_all-2.result _ _ _ (codes "complete ") (decimal c.args.bytes) c.in_ok-put_all.ensures.ok (rw (c.as_bytes.ensures.value, c.format.ensures.text) at c.put_all-2.ensures.err)
