use Rattle.std.proofs.Common.{[], ◌∷◌, arith}
use Rattle.dap_types.proofs.Numbering.{walk-adds, walk-adds-end, length-under}
use Rattle.dap_types.specs.Numbered.{number_in}
use Rattle.dap_types.proofs.index.add_columns.Goals as goal

pub loop-column-preserved : goal.loop-column-preserved
loop-column-preserved c = record {
  counted = omega (arith, c.loop-column.invariant.counted);
  added = λ new more. c.loop-column.invariant.added new
      (walk-adds (λ x. x.name ∷ []) c.args.columns.now c.loop-column.column-index c.loop-column.number c.args.whole.now (number_in c.loop-column.index) (number_in c.add.new.self) new c.column-item.result
      c.loop-column-test.true c.column-item.is (rw c.in_ok-joined.ensures at c.in_ok-add.ensures) more);
}

pub returns : goal.returns
returns c = (
  omega (arith, c.loop-column.invariant.counted, c.loop-column-test.false, length-under (λ x. x.name ∷ []) c.args.columns.now c.args.whole.now),
  c.loop-column.invariant.added (number_in c.loop-column.index) (walk-adds-end (λ x. x.name ∷ []) c.args.columns.now c.loop-column.column-index c.loop-column.number c.args.whole.now (number_in c.loop-column.index) c.loop-column-test.false),
)
