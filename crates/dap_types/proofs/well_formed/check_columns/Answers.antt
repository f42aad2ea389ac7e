use Rattle.std.proofs.Common.{Ok, Err, refl, arith}
use Rattle.std.proofs.lemmas.Result.{err_from_is_err_and}
use Rattle.dap_types.proofs.Judging.{walk-more, walk-bad, walk-end}
use Rattle.dap_types.specs.Model.{scalar}
use Rattle.dap_types.proofs.well_formed.check_columns.Goals as goal

pub returns-in_err-check_one : goal.returns-in_err-check_one
returns-in_err-check_one c =
    let p = err_from_is_err_and c.from_residual.result c.from_residual.ensures.1 in
    rw (p.1, p.2) (c.loop-column.invariant.judged (Err c.in_err-check_one.field-0.0)
    (walk-bad scalar c.args.columns.now c.loop-column.column-index c.args.depth c.loop-column.number c.loop-column.names c.column-item.result _ c.loop-column-test.true c.column-item.is
    (c.in_err-check_one.ensures (scalar c.column-item.result) refl refl refl)))

pub loop-column-preserved : goal.loop-column-preserved
loop-column-preserved c = record {
  counted = omega (arith, c.loop-column.invariant.counted);
  judged = λ r more. c.loop-column.invariant.judged r
      (walk-more scalar c.args.columns.now c.loop-column.column-index c.args.depth c.loop-column.number c.loop-column.names c.column-item.result c.check_one.new.names r c.loop-column-test.true c.column-item.is
      (c.in_ok-check_one.ensures (scalar c.column-item.result) refl refl refl) more);
}

pub returns : goal.returns
returns c = c.loop-column.invariant.judged (Ok c.loop-column.number)
    (walk-end scalar c.args.columns.now c.loop-column.column-index c.args.depth c.loop-column.number c.loop-column.names c.loop-column-test.false)
