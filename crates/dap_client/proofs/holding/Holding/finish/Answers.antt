use Rattle.std.proofs.Common.{◌++◌, sym, subst, ◌∙◌, arith}
use Rattle.dap_client.specs.After.{IsFinished, form_in}
use Rattle.dap_client.specs.Verdict.{Form}
use Rattle.dap_client.specs.inner.Holding.{SaysWhole}
use Rattle.dap_client.specs.declared.body_outcome.BodyOutcome.{BodyOutcome}
use Rattle.dap_client.proofs.HeldBodies.{no-fault, whole-fault, whole-told}
use Rattle.dap_client.proofs.holding.Holding.finish.Goals as goal

pub finish-requires : goal.finish-requires
finish-requires c = let (form, limit, body, is) = c.requires in let (put, stands) = is.after in (body, put, stands)

pub whole-requires : goal.whole-requires
whole-requires c =
    let (form, limit, body, is) = c.requires in
    let (put, stands) = is.after in
    let (text, gained, finished) = c.finish.ensures.finished body put stands in
    no-fault (form_in c.args.self.reader) body (put ++ text) c.finish.result (λ e. omega (arith, c.finish.ensures.fault e)) finished

pub returns-clause-says : goal.returns-clause-says
returns-clause-says c form limit body is =
    let (put, stands) = is.after in
    let (text, gained, finished) = c.finish.ensures.finished body put stands in
    let told : IsFinished form body (put ++ text) c.finish.result = subst (λ (f : Form). IsFinished f body (put ++ text) c.finish.result) is.is_form finished in
    subst (λ (o : BodyOutcome). SaysWhole form limit body o) (sym c.whole.ensures)
    (whole-told form limit body (put ++ text) c.args.self.held c.finish.result is.held (λ e. omega (arith, c.finish.ensures.fault e)) told)

pub returns-clause-no_fault : goal.returns-clause-no_fault
returns-clause-no_fault c = λ e. whole-fault c.args.self.held c.finish.result (sym c.whole.ensures ∙ e)
