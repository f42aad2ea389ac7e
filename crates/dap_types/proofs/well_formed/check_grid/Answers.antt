use Rattle.std.proofs.Common.{[], Ok, Err, map, refl, sym, arith}
use Rattle.std.proofs.lemmas.Result.{err_from_is_err_and}
use Rattle.dap_types.proofs.Judging.{leaf-more, leaf-bad, walk-more, walk-bad, walk-end}
use Rattle.dap_types.specs.Model.{array}
use Rattle.dap_types.proofs.well_formed.check_grid.Goals as goal

pub returns-in_err-check_one : goal.returns-in_err-check_one
returns-in_err-check_one c =
    let p = err_from_is_err_and c.from_residual.result c.from_residual.ensures.1 in
    rw (p.1, p.2) (leaf-bad c.args.depth c.args.first [] (array c.args.array.now) (map array c.args.maps.now) c.in_err-check_one.field-0.0
    (rw c.new-names.ensures at (c.in_err-check_one.ensures (array c.args.array.now) refl (sym c.is_in_bounds.ensures) refl)))

pub loop-map-init : goal.loop-map-init
loop-map-init c = record {
  counted = omega arith;
  judged = λ r more. leaf-more c.args.depth c.args.first _ c.check_one.new.names (array c.args.array.now) (map array c.args.maps.now) r
      (rw c.new-names.ensures at (c.in_ok-check_one.ensures (array c.args.array.now) refl (sym c.is_in_bounds.ensures) refl)) more;
}

pub returns-in_err-check_one-2 : goal.returns-in_err-check_one-2
returns-in_err-check_one-2 c =
    let p = err_from_is_err_and c.from_residual-in_err-check_one-2.result c.from_residual-in_err-check_one-2.ensures.1 in
    rw (p.1, p.2) (c.loop-map.invariant.judged (Err c.in_err-check_one-2.field-0.0)
    (walk-bad array c.args.maps.now c.loop-map.map-index c.args.depth c.loop-map.number c.loop-map.names c.map-item.result _ c.loop-map-test.true c.map-item.is
    (c.in_err-check_one-2.ensures (array c.map-item.result) refl (sym c.is_in_bounds-in-loop-map.ensures) refl)))

pub loop-map-preserved : goal.loop-map-preserved
loop-map-preserved c = record {
  counted = omega (arith, c.loop-map.invariant.counted);
  judged = λ r more. c.loop-map.invariant.judged r
      (walk-more array c.args.maps.now c.loop-map.map-index c.args.depth c.loop-map.number c.loop-map.names c.map-item.result c.check_one-in-loop-map.new.names r c.loop-map-test.true c.map-item.is
      (c.in_ok-check_one-2.ensures (array c.map-item.result) refl (sym c.is_in_bounds-in-loop-map.ensures) refl) more);
}

pub returns : goal.returns
returns c = c.loop-map.invariant.judged (Ok c.loop-map.number)
    (walk-end array c.args.maps.now c.loop-map.map-index c.args.depth c.loop-map.number c.loop-map.names c.loop-map-test.false)
