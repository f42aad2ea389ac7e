use Rattle.std.proofs.Common.{◌++◌, codes}
use Rattle.dap_outside.proofs.Passing.{front_first, puts_failed, puts_two}
use Rattle.xdr_decode.specs.inner.Lines.{shown_token}
use Rattle.xdr_decode.proofs.line.put_line.Goals as goal

pub returns-in_err-put-clause-puts : goal.returns-in_err-put-clause-puts
returns-in_err-put-clause-puts g c = puts_failed c.from_residual.result _ _ _ _ _ c.from_residual.ensures.0 (front_first _ _ _ (codes " = ") (shown_token c.args.token ++ codes "\n") c.in_err-put.ensures.puts)

pub returns-clause-puts : goal.returns-clause-puts
returns-clause-puts g c = puts_two c.put_ended.result _ _ _ _ _ _ (codes " = ") (shown_token c.args.token ++ codes "\n") c.in_ok-put.ensures.puts c.put_ended.ensures.puts
