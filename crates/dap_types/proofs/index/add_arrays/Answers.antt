use Rattle.std.proofs.Common.{[], ◌∷◌, arith}
use Rattle.dap_types.proofs.Numbering.{walk-adds, walk-adds-end, length-under}
use Rattle.dap_types.specs.Numbered.{number_in}
use Rattle.dap_types.proofs.index.add_arrays.Goals as goal

pub loop-array-preserved : goal.loop-array-preserved
loop-array-preserved c = record {
  counted = omega (arith, c.loop-array.invariant.counted);
  added = λ new more. c.loop-array.invariant.added new
      (walk-adds (λ x. x.name ∷ []) c.args.arrays.now c.loop-array.array-index c.loop-array.number c.args.whole.now (number_in c.loop-array.index) (number_in c.add.new.self) new c.array-item.result
      c.loop-array-test.true c.array-item.is (rw c.in_ok-joined.ensures at c.in_ok-add.ensures) more);
}

pub returns : goal.returns
returns c = (
  omega (arith, c.loop-array.invariant.counted, c.loop-array-test.false, length-under (λ x. x.name ∷ []) c.args.arrays.now c.args.whole.now),
  c.loop-array.invariant.added (number_in c.loop-array.index) (walk-adds-end (λ x. x.name ∷ []) c.args.arrays.now c.loop-array.array-index c.loop-array.number c.args.whole.now (number_in c.loop-array.index) c.loop-array-test.false),
)
