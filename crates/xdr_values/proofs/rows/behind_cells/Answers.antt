use Rattle.std.proofs.Common.{arith, subst}
use Rattle.std.proofs.lemmas.List.{drop_all}
use Rattle.plain_lemmas.proofs.Lists.{drop_here}
use Rattle.xdr_values.proofs.RowParts.{CellsLeft, cells_left_end, cells_left_next}
use Rattle.xdr_values.proofs.rows.behind_cells.Goals as goal

pub loop-column-init : goal.loop-column-init
loop-column-init c = record { left = λ cells rest st. record { cells = cells; stand = st }; within = omega arith }

pub loop-column-preserved : goal.loop-column-preserved
loop-column-preserved c = record {
  left = λ cells rest st.
      let here = drop_here c.args.columns.now c.loop-column.column-index c.column-item.result c.loop-column-test.true c.column-item.is in
      cells_left_next c.column-item.result _ c.loop-column.rest.now rest c.value.result.1.now (subst (λ cs. CellsLeft cs c.loop-column.rest.now rest) here (c.loop-column.invariant.left cells rest st)) c.value.ensures.rest;
  within = omega (arith, c.value.ensures.within, c.loop-column.invariant.within);
}

pub returns-clause-rest : goal.returns-clause-rest
returns-clause-rest c = λ cells rest st. cells_left_end _ c.loop-column.rest.now rest (drop_all c.loop-column.column-index c.args.columns.now c.loop-column-test.false) (c.loop-column.invariant.left cells rest st)
