use Rattle.std.proofs.Common.{◌+◌, ◌∷◌, ◌++◌, [], ◌∙◌, ap, arith, refl, rules}
use Rattle.xdr_fields.specs.Wants.{wants_of_array, wants_of_arrays}
use Rattle.xdr_decode.proofs.Stopping.{stops_before}
use Rattle.xdr_decode.proofs.Turns.{arrays_fit, arrays_push, arrays_read, arrays_start, arrays_stopped, next_of}
use Rattle.xdr_decode.specs.inner.Taken.{Stops}
use Rattle.xdr_decode.proofs.trees.grid.Goals as goal

pub returns-in_err-first-clause-stop : goal.returns-in_err-first-clause-stop
returns-in_err-first-clause-stop c = λ above.
    let stop : Stops (wants_of_arrays above (c.args.own.now ∷ c.args.maps.now)) c.args.bytes.now c.in_err-first.field-0.0 =
    stops_before (wants_of_array above c.args.own.now) (wants_of_arrays above c.args.maps.now) c.args.bytes.now c.in_err-first.field-0.0 (c.in_err-first.ensures.stop above) in
    search (rules, stop)

pub returns-in_err-tree-clause-stop : goal.returns-in_err-tree-clause-stop
returns-in_err-tree-clause-stop c = λ above.
    let stop : Stops (wants_of_arrays above (c.args.own.now ∷ c.args.maps.now)) c.args.bytes.now c.in_err-tree.field-0.0 =
    arrays_stopped (c.args.own.now ∷ c.args.maps.now) (c.loop-map.map-index + 1) _ c.args.bytes.now _ c.map-item.result _ c.loop-map.invariant (omega (arith, c.loop-map-test.true))
    (next_of c.args.own.now c.args.maps.now c.loop-map.map-index c.map-item.result c.map-item.is) c.in_err-tree.ensures.stop above in
    search (rules, stop)

pub loop-map-init : goal.loop-map-init
loop-map-init c =
    arrays_push (c.args.own.now ∷ c.args.maps.now) 0 [] c.push.new.self c.args.bytes.now c.args.bytes.now c.in_ok-first.behind.now c.args.own.now c.in_ok-first.first
    (arrays_start (c.args.own.now ∷ c.args.maps.now) [] c.args.bytes.now refl) (omega arith) refl (c.in_ok-push.ensures.ok ∙ ap (λ ts. ts ++ c.in_ok-first.first ∷ []) c.new-trees.ensures)
    c.in_ok-first.ensures.fits c.in_ok-first.ensures.read

pub loop-map-preserved : goal.loop-map-preserved
loop-map-preserved c =
    arrays_push (c.args.own.now ∷ c.args.maps.now) (c.loop-map.map-index + 1) _ c.push-in-loop-map.new.self c.args.bytes.now _ _ c.map-item.result _ c.loop-map.invariant (omega (arith, c.loop-map-test.true))
    (next_of c.args.own.now c.args.maps.now c.loop-map.map-index c.map-item.result c.map-item.is) c.in_ok-push-2.ensures.ok c.in_ok-tree.ensures.fits c.in_ok-tree.ensures.read

pub returns-clause-fits : goal.returns-clause-fits
returns-clause-fits c = arrays_fit (c.args.own.now ∷ c.args.maps.now) (c.loop-map.map-index + 1) _ c.args.bytes.now _ c.loop-map.invariant (omega (arith, c.loop-map-test.false))

pub returns-clause-read : goal.returns-clause-read
returns-clause-read c = arrays_read (c.args.own.now ∷ c.args.maps.now) (c.loop-map.map-index + 1) _ c.args.bytes.now _ c.loop-map.invariant (omega (arith, c.loop-map-test.false))
