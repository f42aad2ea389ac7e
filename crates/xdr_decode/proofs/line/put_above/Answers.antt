use Rattle.std.proofs.Common.{codes}
use Rattle.dap_outside.proofs.Passing.{puts_two}
use Rattle.xdr_decode.proofs.line.put_above.Goals as goal

pub returns-clause-puts : goal.returns-clause-puts
returns-clause-puts g c =
    puts_two c.put-2.result _ _ _ _ _ _ c.args.name.now (codes ".") (rw c.bytes.ensures at c.in_ok-put.ensures.puts) c.put-2.ensures.puts
