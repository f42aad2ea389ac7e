use Rattle.std.proofs.Common.{◌++◌, codes, arith}
use Rattle.std.specs.Fmt.{decimal}
use Rattle.dap_outside.proofs.Fronts.{front_of, ok_more, on_err}
use Rattle.dap_client.proofs.Ending.{err_before}
use Rattle.dap_client.proofs.reader.put_complete.Goals as goal

pub returns-in_err-put_count-clause-err : goal.returns-in_err-put_count-clause-err
returns-in_err-put_count-clause-err g c = on_err c.from_residual.result _ (front_of _ _ (codes "complete " ++ decimal c.args.bytes) (codes "\n") c.in_err-put_count.ensures.err)

pub returns-clause-ok : goal.returns-clause-ok
returns-clause-ok g c = ok_more c.put_line_feed.result _ _ _ (codes "complete " ++ decimal c.args.bytes) (codes "\n") c.in_ok-put_count.ensures.ok c.put_line_feed.ensures.ok

pub returns-clause-err : goal.returns-clause-err
returns-clause-err g c =
    err_before c.put_line_feed.result _ _ _ (codes "complete " ++ decimal c.args.bytes) (codes "\n") (omega arith) c.in_ok-put_count.ensures.ok c.put_line_feed.ensures.err
