use Rattle.std.proofs.Common.{arith}
use Rattle.dap_http.proofs.EscapedSet.{encode_is}
use Rattle.dap_http.proofs.escapes.escaped.Goals as goal

pub returns : goal.returns
returns c =
    rw (c.in_ok-append_to.ensures.ok, c.new-out.ensures.bytes, c.percent_encode.ensures.text)
    (encode_is c.args.bytes.now (λ i. omega (arith, c.type_inv.bytes i)))
