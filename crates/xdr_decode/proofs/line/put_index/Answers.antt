use Rattle.std.proofs.Common.{◌++◌, codes, sym, append_assoc}
use Rattle.std.specs.Fmt.{decimal}
use Rattle.dap_outside.proofs.Passing.{front_first, puts_as, puts_failed, puts_two}
use Rattle.xdr_decode.proofs.line.put_index.Goals as goal

pub returns-in_err-put-clause-puts : goal.returns-in_err-put-clause-puts
returns-in_err-put-clause-puts g c =
    puts_failed c.from_residual.result _ _ _ _ _ c.from_residual.ensures.0 (front_first _ _ _ (codes "[") (decimal c.args.index ++ codes "]") c.in_err-put.ensures.puts)

pub returns-clause-puts : goal.returns-clause-puts
returns-clause-puts g c =
    puts_as c.put_closed.result _ _ _ _ _ _ (sym (append_assoc (codes "[") (decimal c.args.index) (codes "]"))) (puts_two c.put_closed.result _ _ _ _ _ _ (codes "[") (decimal c.args.index ++ codes "]") c.in_ok-put.ensures.puts c.put_closed.ensures.puts)
