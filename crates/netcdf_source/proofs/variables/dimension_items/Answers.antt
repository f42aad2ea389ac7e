use Rattle.netcdf_source.specs.declared.failure.Stop.TheVariants.{Failed}
use Rattle.std.proofs.Common.{◌≡◌, [], length, ◌==◌, Ok}
use Rattle.std.proofs.lemmas.Result.{err_from_is_err_and}
use Rattle.netcdf_source.specs.inner.Reading.{Fails, next_id, times}
use Rattle.netcdf_source.proofs.Times.{goes_on, ends, is_done}
use Rattle.netcdf_source.proofs.variables.dimension_items.Goals as goal

pub returns-in_err-id : goal.returns-in_err-id
returns-in_err-id c =
    let p = err_from_is_err_and c.from_residual-in_err-id.result c.from_residual-in_err-id.ensures.1 in
    let first : c.is_empty.result ≡ (length c.loop.ids == 0) = rw (← c.items.ensures) c.is_empty.ensures in
    let read : Fails (Failed c.in_err-id.field-0.0) (next_id c.args.width c.args.dimensions.now c.loop.ids c.loop.rest.now) = rw (← first) c.in_err-id.ensures in
    rw (p.1, p.2) (ends (next_id c.args.width c.args.dimensions.now) (Failed c.in_err-id.field-0.0) c.loop.ids c.args.rank c.loop.counter c.loop.rest.now (times (next_id c.args.width c.args.dimensions.now) c.args.rank [] c.args.bytes.now) c.loop-test.true read c.loop.invariant)

pub loop-preserved : goal.loop-preserved
loop-preserved c =
    let first : c.is_empty.result ≡ (length c.loop.ids == 0) = rw (← c.items.ensures) c.is_empty.ensures in
    let read : next_id c.args.width c.args.dimensions.now c.loop.ids c.loop.rest.now ≡ Ok (c.in_ok-id.id, c.in_ok-id.after.now) = rw (← first) c.in_ok-id.ensures in
    rw c.in_ok-push.ensures.ok (goes_on (next_id c.args.width c.args.dimensions.now) c.loop.ids c.args.rank c.loop.counter c.loop.rest.now c.in_ok-id.id c.in_ok-id.after.now (times (next_id c.args.width c.args.dimensions.now) c.args.rank [] c.args.bytes.now) c.loop-test.true read c.loop.invariant)

pub returns : goal.returns
returns c = is_done (next_id c.args.width c.args.dimensions.now) c.loop.ids c.args.rank c.loop.counter c.loop.rest.now (times (next_id c.args.width c.args.dimensions.now) c.args.rank [] c.args.bytes.now) c.loop-test.false c.loop.invariant
