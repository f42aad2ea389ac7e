use Rattle.std.proofs.Common.{rules}
use Rattle.plain_lemmas.proofs.Options.{if_err-map}
use Rattle.dap_model.proofs.Values.{length-values_in}
use Rattle.dap_model.specs.Fits.{values_in}
use Rattle.dap_types.specs.Model.{product}
use Rattle.dap_types.specs.View.{tree_view}
use Rattle.xdr_fields.specs.Wants.{a_count, array_wants}
use Rattle.xdr_decode.proofs.Arrays.{both_ok, count_spelt, numbers_again_stop, numbers_count_stop, numbers_read, numbers_stop, two_counts}
use Rattle.xdr_decode.specs.inner.Taken.{Stops, sizes_of}
use Rattle.xdr_decode.proofs.trees.numbers.Goals as goal

pub returns-in_err-rest-clause-stop : goal.returns-in_err-rest-clause-stop
returns-in_err-rest-clause-stop c = λ path.
    let n = product (sizes_of c.args.dims.now) in
    let stop : Stops (array_wants c.args.base path (sizes_of c.args.dims.now) n) c.args.bytes.now c.in_err-rest.field-0.0 =
    numbers_count_stop c.args.base path (sizes_of c.args.dims.now) n c.args.bytes.now c.in_err-rest.field-0.0 c.requires.number c.requires.wide (c.in_err-rest.ensures.stop (a_count n) c.elements.ensures) in
    search (rules, stop)

pub returns-in_err-rest-2-clause-stop : goal.returns-in_err-rest-2-clause-stop
returns-in_err-rest-2-clause-stop c = λ path.
    let n = product (sizes_of c.args.dims.now) in
    let stop : Stops (array_wants c.args.base path (sizes_of c.args.dims.now) n) c.args.bytes.now c.in_err-rest-2.field-0.0 =
    numbers_again_stop c.args.base path (sizes_of c.args.dims.now) n c.args.bytes.now _ c.in_err-rest-2.field-0.0 c.requires.number c.requires.wide
    (count_spelt n _ c.args.bytes.now _ (c.in_ok-rest.ensures.read (a_count n) c.elements.ensures)) (c.in_err-rest-2.ensures.stop (a_count n) c.elements-2.ensures) in
    search (rules, stop)

pub returns-clause-read : goal.returns-clause-read
returns-clause-read c =
    let n = product (sizes_of c.args.dims.now) in
    both_ok c.nested.result (λ r fits read. numbers_read c.args.base (values_in (tree_view r.0)) n c.args.bytes.now _ r.1.now c.requires.number c.requires.wide
    (length-values_in c.args.base (sizes_of c.args.dims.now) (tree_view r.0) fits)
    (two_counts n c.args.bytes.now _ _ (count_spelt n _ c.args.bytes.now _ (c.in_ok-rest.ensures.read (a_count n) c.elements.ensures)) (count_spelt n _ _ _ (c.in_ok-rest-2.ensures.read (a_count n) c.elements-2.ensures))) read)
    c.nested.ensures.fits c.nested.ensures.read

pub returns-clause-stop : goal.returns-clause-stop
returns-clause-stop c = λ path.
    let n = product (sizes_of c.args.dims.now) in
    if_err-map c.nested.result (λ e stop. numbers_stop c.args.base path (sizes_of c.args.dims.now) n c.args.bytes.now _ e c.requires.number c.requires.wide
    (two_counts n c.args.bytes.now _ _ (count_spelt n _ c.args.bytes.now _ (c.in_ok-rest.ensures.read (a_count n) c.elements.ensures)) (count_spelt n _ _ _ (c.in_ok-rest-2.ensures.read (a_count n) c.elements-2.ensures))) stop)
    (c.nested.ensures.stop path (sizes_of c.args.dims.now) 0)
