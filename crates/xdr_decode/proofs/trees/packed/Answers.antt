use Rattle.std.proofs.Common.{arith, rules}
use Rattle.dap_types.specs.declared.declarations.BaseType.TheVariants.{Byte}
use Rattle.dap_model.proofs.Values.{length-values_in, values_of_fit}
use Rattle.dap_model.specs.Fits.{values_in}
use Rattle.dap_types.specs.Model.{product}
use Rattle.dap_types.specs.View.{tree_view}
use Rattle.xdr_fields.specs.Wants.{a_count, a_filler, array_wants}
use Rattle.xdr_decode.proofs.Arrays.{bytes_again_stop, bytes_count_stop, bytes_read, bytes_stop, count_small, count_spelt, fill_same, filler_spelt, filler_stop, two_counts}
use Rattle.xdr_decode.specs.inner.Taken.{Stops, sizes_of}
use Rattle.xdr_decode.proofs.trees.packed.Goals as goal

pub returns-in_err-rest-clause-stop : goal.returns-in_err-rest-clause-stop
returns-in_err-rest-clause-stop c = λ path.
    let n = product (sizes_of c.args.dims.now) in
    let stop : Stops (array_wants Byte path (sizes_of c.args.dims.now) n) c.args.bytes.now c.in_err-rest.field-0.0 =
    bytes_count_stop path (sizes_of c.args.dims.now) n c.args.bytes.now c.in_err-rest.field-0.0 (c.in_err-rest.ensures.stop (a_count n) c.elements-count.ensures) in
    search (rules, stop)

pub returns-in_err-rest-2-clause-stop : goal.returns-in_err-rest-2-clause-stop
returns-in_err-rest-2-clause-stop c = λ path.
    let n = product (sizes_of c.args.dims.now) in
    let stop : Stops (array_wants Byte path (sizes_of c.args.dims.now) n) c.args.bytes.now c.in_err-rest-2.field-0.0 =
    bytes_again_stop path (sizes_of c.args.dims.now) n c.args.bytes.now _ c.in_err-rest-2.field-0.0
    (count_spelt n _ c.args.bytes.now _ (c.in_ok-rest.ensures.read (a_count n) c.elements-count.ensures)) (c.in_err-rest-2.ensures.stop (a_count n) c.elements-count.ensures) in
    search (rules, stop)

pub returns-in_err-tree-clause-stop : goal.returns-in_err-tree-clause-stop
returns-in_err-tree-clause-stop c = λ path.
    let n = product (sizes_of c.args.dims.now) in
    let stop : Stops (array_wants Byte path (sizes_of c.args.dims.now) n) c.args.bytes.now c.in_err-tree.field-0.0 =
    bytes_stop path (sizes_of c.args.dims.now) n c.args.bytes.now _ c.in_err-tree.field-0.0
    (two_counts n c.args.bytes.now _ _ (count_spelt n _ c.args.bytes.now _ (c.in_ok-rest.ensures.read (a_count n) c.elements-count.ensures)) (count_spelt n _ _ _ (c.in_ok-rest-2.ensures.read (a_count n) c.elements-count.ensures)))
    (c.in_err-tree.ensures.stop path (sizes_of c.args.dims.now) 0) in
    search (rules, stop)

pub returns-in_err-behind-clause-stop : goal.returns-in_err-behind-clause-stop
returns-in_err-behind-clause-stop c = λ path.
    let n = product (sizes_of c.args.dims.now) in
    let taken = c.in_ok-rest.ensures.read (a_count n) c.elements-count.ensures in
    let small = count_small n _ _ _ taken in
    let stop : Stops (array_wants Byte path (sizes_of c.args.dims.now) n) c.args.bytes.now c.in_err-behind.field-0.0 =
    filler_stop path (sizes_of c.args.dims.now) n (values_in (tree_view c.in_ok-tree.tree)) c.args.bytes.now _ _ c.in_err-behind.field-0.0
    (length-values_in Byte (sizes_of c.args.dims.now) (tree_view c.in_ok-tree.tree) c.in_ok-tree.ensures.fits) (values_of_fit Byte (sizes_of c.args.dims.now) (tree_view c.in_ok-tree.tree) c.in_ok-tree.ensures.fits)
    (two_counts n c.args.bytes.now _ _ (count_spelt n _ c.args.bytes.now _ taken) (count_spelt n _ _ _ (c.in_ok-rest-2.ensures.read (a_count n) c.elements-count.ensures)))
    c.in_ok-tree.ensures.read
    (c.in_err-behind.ensures.stop (a_filler n) (fill_same _ _ n c.fill.ensures (omega (arith, small, c.min.ensures, c.elements-count.ensures)))) in
    search (rules, stop)

pub returns-clause-read : goal.returns-clause-read
returns-clause-read c =
    let n = product (sizes_of c.args.dims.now) in
    let taken = c.in_ok-rest.ensures.read (a_count n) c.elements-count.ensures in
    let small = count_small n _ _ _ taken in
    bytes_read (values_in (tree_view c.in_ok-tree.tree)) n c.args.bytes.now _ _ _ (length-values_in Byte (sizes_of c.args.dims.now) (tree_view c.in_ok-tree.tree) c.in_ok-tree.ensures.fits)
    (two_counts n c.args.bytes.now _ _ (count_spelt n _ c.args.bytes.now _ taken) (count_spelt n _ _ _ (c.in_ok-rest-2.ensures.read (a_count n) c.elements-count.ensures)))
    c.in_ok-tree.ensures.read
    (filler_spelt n _ _ _ (c.in_ok-behind.ensures.read (a_filler n) (fill_same _ _ n c.fill.ensures (omega (arith, small, c.min.ensures, c.elements-count.ensures)))))
