use Rattle.std.proofs.Common.{rules, ◌≡◌, true}
use Rattle.dap_cases.proofs.Judging.{agreed, judged-later}
use Rattle.dap_cases.specs.Verdicts.{is_agreed}
use Rattle.dap_cases.proofs.case_verdict.verdict_on.Goals as goal

pub returns : goal.returns
returns g c =
    let all : is_agreed c.in_ok-whole.whole ≡ true = search (rules, c.if-not-is_agreed.ensures, c.if-not-is_agreed.false, c.is_agreed.ensures) in
    judged-later c.verdict_by-3.result _ _ c.args.case c.in_ok-case.case c.in_ok-whole.whole c.in_ok-case.ensures (agreed c.in_ok-whole.whole all) c.in_ok-whole.ensures.judged c.verdict_by-3.ensures.judged
