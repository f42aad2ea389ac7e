use Rattle.std.proofs.Common.{codes}
use Rattle.std.specs.Fmt.{decimal}
use Rattle.dap_outside.proofs.Passing.{puts_two}
use Rattle.xdr_decode.proofs.line.put_closed.Goals as goal

pub returns-clause-puts : goal.returns-clause-puts
returns-clause-puts g c =
    puts_two c.put.result _ _ _ _ _ _ (decimal c.args.index) (codes "]") c.in_ok-put_number.ensures.puts c.put.ensures.puts
