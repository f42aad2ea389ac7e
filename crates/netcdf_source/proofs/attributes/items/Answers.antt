use Rattle.std.proofs.Common.{arith}
use Rattle.std.proofs.lemmas.Result.{err_from_is_err_and}
use Rattle.netcdf_source.proofs.Unread.{read-list, failed-list, left-le, front-list, front-whole}
use Rattle.netcdf_source.proofs.attributes.items.Goals as goal

pub returns-in_err-rest : goal.returns-in_err-rest
returns-in_err-rest c =
    let p = err_from_is_err_and c.from_residual.result c.from_residual.ensures.1 in
    rw (p.1, p.2) (failed-list c.args.version c.args.count c.args.bytes.now c.in_err-rest.field-0.0 c.in_err-rest.ensures)

pub slice_bounds-front-count : goal.slice_bounds-front-count
slice_bounds-front-count c = left-le c.args.version c.args.count c.args.bytes.now c.in_ok-rest.rest.now (λ i. omega (arith, c.type_inv.bytes i)) c.in_ok-rest.ensures

pub invariant_of-list : goal.invariant_of-list
invariant_of-list c = rw c.in_ok-new.ensures (front-whole c.args.version c.args.count c.args.bytes.now c.in_ok-rest.rest.now (λ i. omega (arith, c.type_inv.bytes i)) c.in_ok-rest.ensures)

pub returns : goal.returns
returns c =
    let same = front-list c.args.version c.args.count c.args.bytes.now c.in_ok-rest.rest.now (λ i. omega (arith, c.type_inv.bytes i)) c.in_ok-rest.ensures in
    rw (c.in_ok-new.ensures, same) (read-list c.args.version c.args.count c.args.bytes.now c.in_ok-rest.rest.now c.in_ok-rest.ensures)
