use Rattle.std.proofs.Common.{◌+◌, length, length-append, ap, sym, subst, ◌∙◌}
use Rattle.dap_client.proofs.Wrapped.{err_some}
use Rattle.dap_client.specs.After.{IsPart, BodyStandsAfter, form_in}
use Rattle.dap_client.proofs.body.Body.judge.Goals as goal

pub judge-read-requires-clause-stands : goal.judge-read-requires-clause-stands
unfolding BodyStandsAfter
judge-read-requires-clause-stands c =
    let (bytes, put, stands) = c.requires.stands in
    let (p, long, small) = stands in
    (form_in c.args.self.now, bytes, put, sym long, subst (λ x. IsPart (form_in c.args.self.now) x bytes put) (sym c.replace-part.ensures.value) p)

pub returns-in-Ok-clause-pushed : goal.returns-in-Ok-clause-pushed
unfolding BodyStandsAfter
returns-in-Ok-clause-pushed c bytes put (p, long, small) =
    let form = form_in c.args.self.now in
    let (text, sent, (here, less)) = c.in-Ok.ensures.read form bytes put (sym long) (subst (λ x. IsPart form x bytes put) (sym c.replace-part.ensures.value) p) in
    (text, sent, (here, ap (λ n. n + length c.args.piece.now) long ∙ sym (length-append bytes c.args.piece.now), less))

pub returns-in-Err-clause-pushed : goal.returns-in-Err-clause-pushed
unfolding BodyStandsAfter
returns-in-Err-clause-pushed c bytes put (p, long, small) =
    let form = form_in c.args.self.now in
    c.in-Err.ensures.read form bytes put (sym long) (subst (λ x. IsPart form x bytes put) (sym c.replace-part.ensures.value) p)

pub returns-in-Ok-clause-open : goal.returns-in-Ok-clause-open
returns-in-Ok-clause-open c = λ none. c.in-Ok.ensures.goes_on

pub returns-in-Err-clause-fault : goal.returns-in-Err-clause-fault
returns-in-Err-clause-fault c = λ is. c.judge-read.ensures.fault (c.in-Err.is ∙ err_some _ _ is)
