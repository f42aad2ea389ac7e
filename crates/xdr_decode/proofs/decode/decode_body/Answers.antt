use Rattle.std.proofs.Common.{subst, sym}
use Rattle.xdr_decode.proofs.Decoded.{small_good, small_refused, too_long, large_refused, take_budget}
use Rattle.xdr_decode.specs.Verdict.{IsRefusal}
use Rattle.xdr_decode.proofs.decode.decode_body.Goals as goal

pub returns-then-body-lt-BUDGET-clause-good : goal.returns-then-body-lt-BUDGET-clause-good
returns-then-body-lt-BUDGET-clause-good c = small_good c.args.body.now c.decode_front.result c.if-body-lt-BUDGET.true c.decode_front.ensures.good

pub returns-then-body-lt-BUDGET-clause-refused : goal.returns-then-body-lt-BUDGET-clause-refused
returns-then-body-lt-BUDGET-clause-refused c = small_refused c.args.body.now c.decode_front.result c.if-body-lt-BUDGET.true c.decode_front.ensures.refused

pub returns-then-ran_out-clause-refused : goal.returns-then-ran_out-clause-refused
returns-then-ran_out-clause-refused c =
    subst (IsRefusal c.args.body.now) (sym c.too_long.ensures)
    (too_long c.args.body.now _ c.decode_front-answer.result c.if-body-lt-BUDGET.false (take_budget c.args.body.now) c.decode_front-answer.ensures.good c.decode_front-answer.ensures.refused c.if-ran_out.ensures)

pub returns-clause-refused : goal.returns-clause-refused
returns-clause-refused c = large_refused c.args.body.now _ c.decode_front-answer.result (take_budget c.args.body.now) c.decode_front-answer.ensures.refused c.if-ran_out.ensures
