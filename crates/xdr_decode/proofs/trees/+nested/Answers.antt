use Rattle.std.proofs.Common.{ℕ, List, ◌*◌, ◌∙◌, ap, drop, rules, subst, sym}
use Rattle.std.proofs.lemmas.List.{nil_from_length}
use Rattle.xdr_decode.proofs.Texts.{part-rest}
use Rattle.dap_types.specs.Model.{product}
use Rattle.xdr_fields.specs.Wants.{elements_left}
use Rattle.xdr_decode.proofs.ArrayElements.{each_push, each_stop, many_fits, many_read, many_stop, one_fits, one_read, one_stop, some_is}
use Rattle.xdr_decode.proofs.Spots.{none_of, some_of}
use Rattle.xdr_decode.specs.inner.Taken.{Stops, element_want, sizes_of}
use Rattle.xdr_decode.proofs.trees.+nested.Goals as goal

pub each-returns-in_err-tree-clause-stop : goal.each-returns-in_err-tree-clause-stop
each-returns-in_err-tree-clause-stop t c = λ path ms at.
    let stop : Stops (elements_left (element_want c.args.base) path ms at (c.args.count * product (sizes_of c.args.dims.now))) c.args.bytes.now c.in_err-tree.field-0.0 =
    each_stop c.args.base (sizes_of c.args.dims.now) _ _ _ _ _ _ c.loop.invariant c.loop-test.true c.in_err-tree.ensures.stop path ms at in
    search (rules, stop)

pub each-loop-preserved : goal.each-loop-preserved
each-loop-preserved t c = each_push c.args.base (sizes_of c.args.dims.now) _ _ _ _ _ _ _ c.loop.invariant c.in_ok-push.ensures.ok c.in_ok-tree.ensures.fits c.in_ok-tree.ensures.read

pub nested-returns-in_err-value-clause-stop : goal.nested-returns-in_err-value-clause-stop
nested-returns-in_err-value-clause-stop t c = λ path ms at.
    let stop : Stops (elements_left (element_want c.args.base) path ms at (product (sizes_of c.args.dims.now))) c.args.bytes.now c.in_err-value.field-0.0 =
    one_stop c.args.base c.args.dims.now c.args.bytes.now _ (nil_from_length c.args.dims.now (none_of c.args.dims.now c.if-is_empty.ensures)) c.in_err-value.ensures.stop path ms at in
    search (rules, stop)

pub nested-returns-then-is_empty-clause-fits : goal.nested-returns-then-is_empty-clause-fits
nested-returns-then-is_empty-clause-fits t c = one_fits c.args.base c.args.dims.now _ (nil_from_length c.args.dims.now (none_of c.args.dims.now c.if-is_empty.ensures)) c.in_ok-value.ensures.fits

pub nested-returns-then-is_empty-clause-read : goal.nested-returns-then-is_empty-clause-read
nested-returns-then-is_empty-clause-read t c = one_read c.args.base _ c.args.bytes.now _ c.in_ok-value.ensures.read

pub nested-returns-in_err-trees-clause-stop : goal.nested-returns-in_err-trees-clause-stop
nested-returns-in_err-trees-clause-stop t c = λ path ms at.
    let d = c.index-dims-0.result in
    let stop : Stops (elements_left (element_want c.args.base) path ms at (product (sizes_of c.args.dims.now))) c.args.bytes.now c.in_err-trees.field-0.0 =
    many_stop c.args.base c.args.dims.now d c.args.bytes.now _ (some_is c.args.dims.now (some_of c.args.dims.now c.if-is_empty.ensures)) c.index-dims-0.is
    (subst (λ x. (path ms : List ℕ) (at : ℕ) → Stops (elements_left (element_want c.args.base) path ms at (x.size * product (sizes_of (drop 1 c.args.dims.now)))) c.args.bytes.now c.in_err-trees.field-0.0) (sym c.index-dims-0.is)
    (rw (part-rest 1 c.args.dims.now) at c.in_err-trees.ensures.stop)) path ms at in
    search (rules, stop)

pub nested-returns-clause-fits : goal.nested-returns-clause-fits
nested-returns-clause-fits t c =
    many_fits c.args.base c.args.dims.now c.index-dims-0.result c.in_ok-trees.trees (some_is c.args.dims.now (some_of c.args.dims.now c.if-is_empty.ensures)) c.index-dims-0.is
    (c.in_ok-trees.ensures.fits.0 ∙ ap (λ x. x.size) (sym c.index-dims-0.is)) (rw (part-rest 1 c.args.dims.now) at c.in_ok-trees.ensures.fits.1)

pub nested-returns-clause-read : goal.nested-returns-clause-read
nested-returns-clause-read t c = many_read c.args.base _ c.args.bytes.now _ c.in_ok-trees.ensures.read
