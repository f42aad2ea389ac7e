use Rattle.std.proofs.Common.{◌+◌, ◌∙◌, arith, drop, []}
use Rattle.std.proofs.lemmas.List.{drop_all}
use Rattle.plain_lemmas.proofs.Lists.{drop_here}
use Rattle.dap_outside.proofs.Passing.{puts_failed}
use Rattle.grid_projection.specs.Resolved.{marks_in}
use Rattle.saved_source.proofs.Grids.{arrays_end, arrays_failed, arrays_next}
use Rattle.saved_source.proofs.members.put_arrays.Goals as goal

pub returns-in_err-rest-clause-puts : goal.returns-in_err-rest-clause-puts
returns-in_err-rest-clause-puts g c = λ ts rest st.
    let k = c.loop-k.k in
    let here = drop_here c.args.arrays.now k c.index-arrays-k.result c.loop-k-test.true c.index-arrays-k.is in
    puts_failed c.from_residual.result _ _ _ _ _ c.from_residual.ensures.0
    (arrays_failed _ _ _ _ _ [] (marks_in c.args.marks.now) (c.args.first + k) (drop k c.args.arrays.now) c.index-arrays-k.result (drop (k + 1) c.args.arrays.now) c.loop-k.rest.now rest _ here (c.loop-k.invariant.way ts rest st) c.in_err-rest.ensures.puts)

pub loop-k-preserved : goal.loop-k-preserved
loop-k-preserved g c =
    let k = c.loop-k.k in
    let kept = c.loop-k.invariant in
    let here = drop_here c.args.arrays.now k c.index-arrays-k.result c.loop-k-test.true c.index-arrays-k.is in
    record {
      way = λ ts rest st.
          arrays_next _ _ _ _ _ _ (marks_in c.args.marks.now) (c.args.first + k) (drop k c.args.arrays.now) c.index-arrays-k.result (drop (k + 1) c.args.arrays.now) c.loop-k.rest.now rest _ here (c.args.first + (k + 1)) c.in_ok-rest.rest.now (omega arith)
          (kept.way ts rest st) c.in_ok-rest.ensures.puts c.in_ok-rest.ensures.rest;
      count = c.in_ok-rest.ensures.cause.kept ∙ kept.count;
      beside = c.put_leaf.ensures.beside ∙ kept.beside;
    }

pub returns-clause-puts : goal.returns-clause-puts
returns-clause-puts g c = λ ts rest st. (arrays_end _ _ _ _ _ _ _ _ _ _ (drop_all c.loop-k.k c.args.arrays.now c.loop-k-test.false) (c.loop-k.invariant.way ts rest st)).0

pub returns-clause-rest : goal.returns-clause-rest
returns-clause-rest g c = λ ts rest st. (arrays_end _ _ _ _ _ _ _ _ _ _ (drop_all c.loop-k.k c.args.arrays.now c.loop-k-test.false) (c.loop-k.invariant.way ts rest st)).1
