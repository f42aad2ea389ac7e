use Rattle.std.proofs.Common.{◌++◌, length, refl, sym, ap, subst, arith}
use Rattle.dap_client.specs.After.{form_in}
use Rattle.dap_client.specs.inner.Holding.{IsAfter}
use Rattle.dap_client.proofs.HeldPieces.{full-as, held-full, taken-as}
use Rattle.dap_client.proofs.holding.Holding.take.Goals as goal

pub take_into-requires-clause-kind : goal.take_into-requires-clause-kind
take_into-requires-clause-kind c = let (form, limit, body, is) = c.requires.holds in is.not_version

pub take_into-requires-clause-stands : goal.take_into-requires-clause-stands
take_into-requires-clause-stands c =
    let (form, limit, body, is) = c.requires.holds in
    let (same, few) = rw c.in-All.is at is.held in
    subst (λ l. IsAfter c.args.self.reader l) (sym same) is.after

pub take_into-requires-clause-short : goal.take_into-requires-clause-short
take_into-requires-clause-short c =
    let (form, limit, body, is) = c.requires.holds in
    let (same, few) = rw c.in-All.is at is.held in
    omega (arith, ap length same, few, is.is_limit)

pub read_on-requires-clause-kind : goal.read_on-requires-clause-kind
read_on-requires-clause-kind c = let (form, limit, body, is) = c.requires.holds in is.not_version

pub read_on-requires-clause-stands : goal.read_on-requires-clause-stands
read_on-requires-clause-stands c = let (form, limit, body, is) = c.requires.holds in (body, is.after)

pub returns-in-All : goal.returns-in-All
returns-in-All c form limit body is =
    let (same, few) = rw c.in-All.is at is.held in
    taken-as form (form_in c.args.self.reader) limit c.args.self.limit (body ++ c.args.part.now) (c.in-All.kept.items ++ c.args.part.now) c.take_into.result
    is.is_form is.is_limit (ap (λ l. l ++ c.args.part.now) same) c.take_into.ensures

pub returns-in-Longer : goal.returns-in-Longer
returns-in-Longer c form limit body is =
    let (more, v) = rw c.in-Longer.is at is.held in
    let all = body ++ c.args.part.now in
    taken-as form (form_in c.args.self.reader) limit c.args.self.limit all all c.read_on.result is.is_form is.is_limit refl
    (c.read_on.ensures body is.after (full-as form (form_in c.args.self.reader) limit c.args.self.limit body is.is_form is.is_limit (held-full form limit body (more, v)))
    (omega (arith, more, is.is_limit)))
