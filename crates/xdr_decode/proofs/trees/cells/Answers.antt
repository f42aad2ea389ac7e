use Rattle.std.proofs.Common.{rules}
use Rattle.xdr_fields.specs.Wants.{cell_wants}
use Rattle.xdr_decode.proofs.Turns.{cells_push, cells_stopped}
use Rattle.xdr_decode.specs.inner.Taken.{Stops}
use Rattle.xdr_decode.proofs.trees.cells.Goals as goal

pub returns-in_err-value-clause-stop : goal.returns-in_err-value-clause-stop
returns-in_err-value-clause-stop c = λ above.
    let stop : Stops (cell_wants above c.args.columns.now) c.args.bytes.now c.in_err-value.field-0.0 =
    cells_stopped c.args.columns.now _ _ _ _ c.column-item.result _ c.loop-column.invariant c.loop-column-test.true c.column-item.is c.in_err-value.ensures.stop above in
    search (rules, stop)

pub loop-column-preserved : goal.loop-column-preserved
loop-column-preserved c =
    cells_push c.args.columns.now _ _ _ _ _ _ c.column-item.result _ c.loop-column.invariant c.loop-column-test.true c.column-item.is c.in_ok-push.ensures.ok c.in_ok-value.ensures.fits c.in_ok-value.ensures.read
