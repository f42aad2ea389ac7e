use Rattle.std.proofs.Common.{◌++◌, Some, Err, sym, subst, ap}
use Rattle.dap_client.specs.After.{form_in}
use Rattle.dap_client.specs.Replies.{form_of}
use Rattle.dap_client.specs.inner.Holding.{IsJudged}
use Rattle.dap_client.specs.declared.body_outcome.BodyOutcome.{BodyOutcome}
use Rattle.dap_client.proofs.HeldBodies.{ending, judged-so}
use Rattle.dap_client.proofs.holding.judge.Goals as goal

pub judge-requires-clause-stands : goal.judge-requires-clause-stands
judge-requires-clause-stands c = let (bytes, (put, stands)) = c.requires.stands in (bytes, put, stands)

pub stopped-requires : goal.stopped-requires
stopped-requires c =
    let (bytes, (put, stands)) = c.requires.stands in
    let (text, gained, pushed) = c.in-Some.ensures.pushed bytes put stands in
    ending (form_in c.args.reader) bytes (bytes ++ c.args.piece.now) (put ++ text) c.in-Some.outcome (λ e. c.in-Some.ensures.fault (ap Some e)) pushed

pub returns-in-None-clause-judged : goal.returns-in-None-clause-judged
returns-in-None-clause-judged c bytes (put, stands) =
    let (text, gained, pushed) = c.in-None.ensures.pushed bytes put stands in ((put ++ text, pushed), ap form_of c.judge.ensures.kind)

pub returns-in-Some-clause-judged : goal.returns-in-Some-clause-judged
returns-in-Some-clause-judged c bytes (put, stands) =
    let (text, gained, pushed) = c.in-Some.ensures.pushed bytes put stands in
    subst (λ (o : BodyOutcome). IsJudged (form_in c.args.reader) (bytes ++ c.args.piece.now) (Err o)) (sym c.stopped.ensures)
    (judged-so (form_in c.args.reader) bytes (bytes ++ c.args.piece.now) (put ++ text) c.in-Some.outcome pushed)
