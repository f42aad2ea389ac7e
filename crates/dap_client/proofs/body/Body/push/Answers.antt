use Rattle.std.proofs.Common.{◌+◌, length, length-append, ap, sym, subst, ◌∙◌}
use Rattle.dap_client.proofs.Wrapped.{err_some, some_err}
use Rattle.dap_client.specs.After.{IsPart, BodyStandsAfter, form_in}
use Rattle.dap_client.proofs.body.Body.push.Goals as goal

pub read-read-requires-clause-stands : goal.read-read-requires-clause-stands
unfolding BodyStandsAfter
read-read-requires-clause-stands g c =
    let (bytes, put, stands) = c.requires.stands in
    let (p, long, small) = stands in
    (form_in c.args.self.now, bytes, put, sym long, subst (λ x. IsPart (form_in c.args.self.now) x bytes put) (sym c.replace-part.ensures.value) p)

pub returns-in-Ok-clause-pushed : goal.returns-in-Ok-clause-pushed
unfolding BodyStandsAfter
returns-in-Ok-clause-pushed g c bytes put (p, long, small) =
    let form = form_in c.args.self.now in
    let (text, sent, (here, less)) = c.in-Ok.ensures.read form bytes put (sym long) (subst (λ x. IsPart form x bytes put) (sym c.replace-part.ensures.value) p) in
    (text, sent, (here, ap (λ n. n + length c.args.piece.now) long ∙ sym (length-append bytes c.args.piece.now), less))

pub returns-in-Err-clause-pushed : goal.returns-in-Err-clause-pushed
unfolding BodyStandsAfter
returns-in-Err-clause-pushed g c bytes put (p, long, small) =
    let form = form_in c.args.self.now in
    c.in-Err.ensures.read form bytes put (sym long) (subst (λ x. IsPart form x bytes put) (sym c.replace-part.ensures.value) p)

pub returns-in-Ok-clause-open : goal.returns-in-Ok-clause-open
returns-in-Ok-clause-open g c = λ none. c.in-Ok.ensures.goes_on

pub returns-in-Err-clause-fault : goal.returns-in-Err-clause-fault
returns-in-Err-clause-fault g c = λ is. c.read-read.ensures.fault (c.in-Err.is ∙ err_some _ _ is)

pub returns-in-Ok-clause-kept : goal.returns-in-Ok-clause-kept
returns-in-Ok-clause-kept g c = λ n. c.in-Ok.ensures.kept (λ e. cc)

pub returns-in-Err-clause-kept : goal.returns-in-Err-clause-kept
returns-in-Err-clause-kept g c = λ n. c.in-Err.ensures.kept (λ e. n (some_err _ _ e))
