use Rattle.std.proofs.Common.{sym, subst}
use Rattle.xdr_decode.specs.inner.Asked.{IsElement}
use Rattle.xdr_decode.proofs.next_field.put_token.Goals as goal

pub returns-in-Value-clause-puts : goal.returns-in-Value-clause-puts
returns-in-Value-clause-puts g c = λ w ws f placed first asks goes is.
    c.put_element.ensures.puts c.args.ask w ws f placed first (subst IsElement (sym c.in-Value.is) tt) asks goes is

pub returns-in-Packed-clause-puts : goal.returns-in-Packed-clause-puts
returns-in-Packed-clause-puts g c = λ w ws f placed first asks goes is.
    c.put_element-in-Packed.ensures.puts c.args.ask w ws f placed first (subst IsElement (sym c.in-Packed.is) tt) asks goes is
