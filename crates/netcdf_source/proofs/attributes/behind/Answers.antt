use Rattle.std.proofs.lemmas.Result.{err_from_is_err_and}
use Rattle.netcdf_source.specs.inner.Unread.{behind_at}
use Rattle.netcdf_source.proofs.Unread.{behind-goes_on, behind-ends, behind-is_done}
use Rattle.netcdf_source.proofs.attributes.behind.Goals as goal

pub returns-in_err-after : goal.returns-in_err-after
returns-in_err-after c =
    let p = err_from_is_err_and c.from_residual.result c.from_residual.ensures.1 in
    rw (p.1, p.2) (behind-ends c.args.version c.args.count c.loop.counter c.loop.rest.now c.in_err-after.field-0.0 (behind_at c.args.version c.args.count c.args.bytes.now) c.loop-test.true c.in_err-after.ensures c.loop.invariant)

pub loop-preserved : goal.loop-preserved
loop-preserved c = behind-goes_on c.args.version c.args.count c.loop.counter c.loop.rest.now c.in_ok-after.after.now c.in_ok-after.field-0-0 (behind_at c.args.version c.args.count c.args.bytes.now) c.loop-test.true c.in_ok-after.ensures c.loop.invariant

pub returns : goal.returns
returns c = behind-is_done c.args.version c.args.count c.loop.counter c.loop.rest.now (behind_at c.args.version c.args.count c.args.bytes.now) c.loop-test.false c.loop.invariant
