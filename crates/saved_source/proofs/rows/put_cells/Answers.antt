use Rattle.std.proofs.Common.{◌+◌, ◌∙◌, arith, drop, []}
use Rattle.std.proofs.lemmas.List.{drop_all}
use Rattle.plain_lemmas.proofs.Lists.{drop_here}
use Rattle.dap_outside.proofs.Passing.{puts_failed}
use Rattle.grid_projection.specs.Resolved.{marks_in}
use Rattle.saved_source.proofs.RowParts.{cells_end, cells_failed, cells_next}
use Rattle.saved_source.proofs.rows.put_cells.Goals as goal

pub returns-in_err-rest-clause-puts : goal.returns-in_err-rest-clause-puts
returns-in_err-rest-clause-puts g c = λ cells rest st.
    let k = c.loop-k.k in
    let here = drop_here c.args.columns.now k c.index-columns-k.result c.loop-k-test.true c.index-columns-k.is in
    puts_failed c.from_residual.result _ _ _ _ _ c.from_residual.ensures.0
    (cells_failed _ _ _ _ _ [] (marks_in c.args.marks.now) (c.args.first + k) (drop k c.args.columns.now) c.index-columns-k.result (drop (k + 1) c.args.columns.now) c.loop-k.rest.now rest _ here (c.loop-k.invariant.way cells rest st) c.in_err-rest.ensures.puts)

pub loop-k-preserved : goal.loop-k-preserved
loop-k-preserved g c =
    let k = c.loop-k.k in
    let kept = c.loop-k.invariant in
    let here = drop_here c.args.columns.now k c.index-columns-k.result c.loop-k-test.true c.index-columns-k.is in
    record {
      way = λ cells rest st.
          cells_next _ _ _ _ _ _ (marks_in c.args.marks.now) (c.args.first + k) (drop k c.args.columns.now) c.index-columns-k.result (drop (k + 1) c.args.columns.now) c.loop-k.rest.now rest _ here (c.args.first + (k + 1)) c.in_ok-rest.rest.now (omega arith)
          (kept.way cells rest st) c.in_ok-rest.ensures.puts c.in_ok-rest.ensures.rest;
      count = c.in_ok-rest.ensures.cause.kept ∙ kept.count;
      beside = c.put_marked.ensures.beside ∙ kept.beside;
    }

pub returns-clause-puts : goal.returns-clause-puts
returns-clause-puts g c = λ cells rest st. cells_end _ _ _ _ _ _ _ _ _ _ (drop_all c.loop-k.k c.args.columns.now c.loop-k-test.false) (c.loop-k.invariant.way cells rest st)
