use Rattle.std.proofs.Common.{subst}
use Rattle.std.proofs.lemmas.List.{drop_all}
use Rattle.plain_lemmas.proofs.Lists.{drop_here}
use Rattle.xdr_values.proofs.EachArray.{EachLeft, each_left_end, each_left_next}
use Rattle.xdr_values.proofs.members.behind_arrays.Goals as goal

pub loop-array-init : goal.loop-array-init
loop-array-init c = λ ts rest st. record { trees = ts; stand = st }

pub loop-array-preserved : goal.loop-array-preserved
loop-array-preserved c = λ ts rest st.
    let here = drop_here c.args.arrays.now c.loop-array.array-index c.array-item.result c.loop-array-test.true c.array-item.is in
    each_left_next c.array-item.result _ c.loop-array.rest.now rest c.behind_array-rest.result.now (subst (λ xs. EachLeft xs c.loop-array.rest.now rest) here (c.loop-array.invariant ts rest st)) c.behind_array-rest.ensures

pub returns : goal.returns
returns c = λ ts rest st. each_left_end _ c.loop-array.rest.now rest (drop_all c.loop-array.array-index c.args.arrays.now c.loop-array-test.false) (c.loop-array.invariant ts rest st)
