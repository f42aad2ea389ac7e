use Rattle.dap_outside.proofs.Passing.{puts_as}
use Rattle.xdr_decode.proofs.Lines.{line_of}
use Rattle.xdr_decode.proofs.line.put_value.Goals as goal

pub returns-in_default : goal.returns-in_default
returns-in_default g c = record {
  puts = puts_as c.put_line.result _ _ _ _ _ _ (line_of c.args.token c.in_default.not-Size) c.put_line.ensures.puts;
  cause = c.put_line.ensures.cause;
  beside = c.put_line.ensures.beside;
}
