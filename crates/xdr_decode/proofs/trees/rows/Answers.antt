use Rattle.std.proofs.Common.{◌∷◌, [], rules}
use Rattle.xdr_fields.specs.Wants.{rows}
use Rattle.xdr_decode.proofs.ArrayElements.{cells_stop, mark_off, mark_on, rows_end, rows_push, rows_stop}
use Rattle.xdr_decode.specs.inner.Taken.{Stops}
use Rattle.xdr_decode.proofs.trees.rows.Goals as goal

pub returns-in_err-more-clause-stop : goal.returns-in_err-more-clause-stop
returns-in_err-more-clause-stop c = λ above name.
    let stop : Stops (rows above name c.args.columns.now 0 ∷ []) c.args.bytes.now c.in_err-more.field-0.0 =
    rows_stop c.args.columns.now _ _ _ _ c.loop-rows.invariant (λ over own row. c.in_err-more.ensures.stop over own c.args.columns.now row) above name in
    search (rules, stop)

pub returns-then-not-more-clause-read : goal.returns-then-not-more-clause-read
returns-then-not-more-clause-read c = rows_end c.args.columns.now _ _ _ _ c.loop-rows.invariant (mark_off _ _ c.in_ok-more.more c.if-not-more.true c.in_ok-more.ensures.read)

pub returns-in_err-cells-clause-stop : goal.returns-in_err-cells-clause-stop
returns-in_err-cells-clause-stop c = λ above name.
    let stop : Stops (rows above name c.args.columns.now 0 ∷ []) c.args.bytes.now c.in_err-cells.field-0.0 =
    cells_stop c.args.columns.now _ _ _ _ _ c.loop-rows.invariant (mark_on _ _ c.in_ok-more.more c.if-not-more.false c.in_ok-more.ensures.read) c.in_err-cells.ensures.stop above name in
    search (rules, stop)

pub loop-rows-preserved : goal.loop-rows-preserved
loop-rows-preserved c =
    rows_push c.args.columns.now _ _ _ _ _ _ _ c.loop-rows.invariant (mark_on _ _ c.in_ok-more.more c.if-not-more.false c.in_ok-more.ensures.read) c.in_ok-push.ensures.ok c.in_ok-cells.ensures.fits c.in_ok-cells.ensures.read
