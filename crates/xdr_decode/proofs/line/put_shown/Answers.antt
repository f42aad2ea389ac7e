use Rattle.std.proofs.Common.{ap, sym}
use Rattle.dap_outside.proofs.Passing.{puts_as}
use Rattle.xdr_decode.specs.inner.Lines.{shown_token}
use Rattle.xdr_decode.proofs.line.put_shown.Goals as goal

pub returns-in-Bits64-clause-puts : goal.returns-in-Bits64-clause-puts
returns-in-Bits64-clause-puts g c = puts_as c.put_double.result _ _ _ _ _ _ (ap shown_token (sym c.in-Bits64.is)) c.put_double.ensures.puts
