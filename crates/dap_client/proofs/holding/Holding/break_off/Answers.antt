use Rattle.std.proofs.Common.{sym, subst, ◌∙◌}
use Rattle.dap_client.specs.After.{IsBrokenOff, form_in}
use Rattle.dap_client.specs.Verdict.{Form}
use Rattle.dap_client.specs.inner.Holding.{SaysBroken}
use Rattle.dap_client.specs.declared.body_outcome.BodyOutcome.{BodyOutcome}
use Rattle.dap_client.proofs.HeldBodies.{broken-ending, broken-told, ending-fault}
use Rattle.dap_client.proofs.holding.Holding.break_off.Goals as goal

pub break_off-requires : goal.break_off-requires
break_off-requires c = let (form, limit, body, is) = c.requires in let (put, stands) = is.after in (body, put, stands)

pub stopped-requires : goal.stopped-requires
stopped-requires c =
    let (form, limit, body, is) = c.requires in
    let (put, stands) = is.after in
    broken-ending (form_in c.args.self.reader) body put c.args.wrong c.break_off.result (c.break_off.ensures body put stands)

pub returns-clause-says : goal.returns-clause-says
returns-clause-says c form limit body is =
    let (put, stands) = is.after in
    let told : IsBrokenOff form body put c.args.wrong c.break_off.result =
    subst (λ (f : Form). IsBrokenOff f body put c.args.wrong c.break_off.result) is.is_form (c.break_off.ensures body put stands) in
    subst (λ (o : BodyOutcome). SaysBroken form limit body c.args.wrong o) (sym c.stopped.ensures)
    (broken-told form limit body put c.args.wrong c.break_off.result c.args.self.held is.held told)

pub returns-clause-no_fault : goal.returns-clause-no_fault
returns-clause-no_fault c = λ e. ending-fault c.break_off.result (sym c.stopped.ensures ∙ e)
