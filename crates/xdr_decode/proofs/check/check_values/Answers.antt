use Rattle.std.proofs.Common.{◌+◌, ◌-◌, [], arith, length, sym, subst}
use Rattle.dap_types.specs.View.{dataset_view}
use Rattle.xdr_decode.proofs.Checks.{bad_wrong, ended_whole, more_wrong, no_fault, open_wrong}
use Rattle.xdr_decode.specs.After.{EndsBehind, IsFirstBad}
use Rattle.dap_model.specs.Received.{IsOpen}
use Rattle.xdr_decode.specs.inner.Deciding.{IsValuesRefusal}
use Rattle.xdr_decode.proofs.check.check_values.Goals as goal

pub returns-then-used-values-clause-refused : goal.returns-then-used-values-clause-refused
returns-then-used-values-clause-refused c =
    let done = rw c.in-Done.is at (c.judge.ensures.done [] [] c.new-decoder.ensures.stands) in
    subst (IsValuesRefusal (dataset_view c.args.dataset) c.args.whole c.args.values.now) (sym c.refused.ensures)
    (more_wrong (dataset_view c.args.dataset) c.args.values.now c.args.whole (0 + c.in-Done.used) _ c.requires.within
    (subst (λ d. EndsBehind d c.args.values.now (0 + c.in-Done.used)) c.new-decoder.ensures.dataset done.1) (omega (arith, c.if-used-values.true)) (omega arith))

pub returns-else-used-values-clause-values : goal.returns-else-used-values-clause-values
returns-else-used-values-clause-values c =
    let done = rw c.in-Done.is at (c.judge.ensures.done [] [] c.new-decoder.ensures.stands) in
    ended_whole (dataset_view c.args.dataset) c.args.values.now (0 + c.in-Done.used) (subst (λ d. EndsBehind d c.args.values.now (0 + c.in-Done.used)) c.new-decoder.ensures.dataset done.1) (omega (arith, c.if-used-values.false))

pub returns-in-More-clause-refused : goal.returns-in-More-clause-refused
returns-in-More-clause-refused c =
    let more = rw c.in-More.is at (c.judge.ensures.more [] [] c.new-decoder.ensures.stands) in
    subst (IsValuesRefusal (dataset_view c.args.dataset) c.args.whole c.args.values.now) (sym c.refused-in-More.ensures)
    (open_wrong (dataset_view c.args.dataset) c.args.values.now c.args.whole (subst (λ d. IsOpen d c.args.values.now) c.new-decoder.ensures.dataset more))

pub returns-in-Refused-clause-refused : goal.returns-in-Refused-clause-refused
returns-in-Refused-clause-refused c =
    let refused = rw c.in-Refused.is at (c.judge.ensures.refused [] [] c.new-decoder.ensures.stands) in
    bad_wrong (dataset_view c.args.dataset) c.args.values.now c.args.whole (c.args.whole - length c.args.values.now) c.in-Refused.bad (omega (arith, c.requires.within))
    (subst (λ d. IsFirstBad d (c.args.whole - length c.args.values.now) c.args.values.now c.in-Refused.bad) c.new-decoder.ensures.dataset (rw c.new-decoder.ensures.start at refused))

pub unreachable-requires : goal.unreachable-requires
unreachable-requires c =
    no_fault c.new-decoder.result c.new-decoder.ensures.stands (rw c.in-WriteFault.is at c.judge.ensures.cause)
