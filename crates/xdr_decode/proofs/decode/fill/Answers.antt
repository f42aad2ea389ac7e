use Rattle.std.proofs.Common.{map, subst, sym, []}
use Rattle.dap_types.specs.View.{dataset_view, tree_view}
use Rattle.xdr_decode.proofs.Decoded.{values_more, values_wrong}
use Rattle.xdr_decode.proofs.Spots.{some_of}
use Rattle.xdr_decode.specs.inner.Deciding.{IsValuesRefusal}
use Rattle.xdr_decode.proofs.decode.fill.Goals as goal

pub returns-in-Ok-clause-refused : goal.returns-in-Ok-clause-refused
returns-in-Ok-clause-refused c =
    subst (IsValuesRefusal (dataset_view c.args.dataset) c.args.whole c.args.values.now) (sym c.refused.ensures)
    (values_more (dataset_view c.args.dataset) (map tree_view c.in-Ok.trees) c.args.whole c.args.values.now c.in-Ok.rest.now _ c.requires c.saturating_sub.ensures (some_of c.in-Ok.rest.now c.if-is_empty.ensures)
    (rw c.items.ensures at c.in-Ok.ensures.fits) (rw c.items.ensures at c.in-Ok.ensures.read))

pub returns-in-Err-Wrong-clause-refused : goal.returns-in-Err-Wrong-clause-refused
returns-in-Err-Wrong-clause-refused c =
    let stopped = (rw c.in-Err-Wrong.field-0-is at c.in-Err-Wrong.ensures.stop) [] in
    subst (IsValuesRefusal (dataset_view c.args.dataset) c.args.whole c.args.values.now) (sym c.refused-in-Err-Wrong.ensures)
    (values_wrong (dataset_view c.args.dataset) c.args.whole c.args.values.now c.in-Err-Wrong.kind c.in-Err-Wrong.left _ c.requires c.saturating_sub-in-Err-Wrong.ensures (rw c.items.ensures at stopped))
