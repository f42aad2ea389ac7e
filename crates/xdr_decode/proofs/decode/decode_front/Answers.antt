use Rattle.std.proofs.Common.{arith, map, subst, sym}
use Rattle.plain_lemmas.proofs.Options.{if_err-map}
use Rattle.dap_types.specs.View.{dataset_view, tree_view}
use Rattle.xdr_decode.proofs.Arrays.{both_ok}
use Rattle.xdr_decode.proofs.Decoded.{front_good, front_refused, head_of, line_cut, line_refused}
use Rattle.xdr_decode.proofs.Texts.{part-rest}
use Rattle.xdr_decode.specs.inner.Deciding.{IsRefusalIn}
use Rattle.xdr_decode.proofs.decode.decode_front.Goals as goal

pub returns-in-Ok-clause-good : goal.returns-in-Ok-clause-good
returns-in-Ok-clause-good c =
    let h = head_of c.args.body.now c.in-Ok.values.now c.in_ok-dataset.used (dataset_view c.in_ok-dataset.dataset) c.in_ok-dataset.ensures.within c.in_ok-dataset.ensures.read (rw (part-rest c.in_ok-dataset.used c.args.body.now) at c.in-Ok.ensures.read) in
    both_ok c.fill.result (λ f same spelled. front_good c.args.body.now c.in-Ok.values.now h.0 (dataset_view c.in_ok-dataset.dataset) (dataset_view f.dataset) (map tree_view f.values) h.1 same spelled) c.fill.ensures.dataset c.fill.ensures.values

pub returns-in-Ok-clause-refused : goal.returns-in-Ok-clause-refused
returns-in-Ok-clause-refused c =
    let h = head_of c.args.body.now c.in-Ok.values.now c.in_ok-dataset.used (dataset_view c.in_ok-dataset.dataset) c.in_ok-dataset.ensures.within c.in_ok-dataset.ensures.read (rw (part-rest c.in_ok-dataset.used c.args.body.now) at c.in-Ok.ensures.read) in
    if_err-map c.fill.result (λ e refused. front_refused c.args.body.now c.in-Ok.values.now h.0 (dataset_view c.in_ok-dataset.dataset) e h.1 refused) c.fill.ensures.refused

pub returns-in-Err-Cut-clause-refused : goal.returns-in-Err-Cut-clause-refused
returns-in-Err-Cut-clause-refused c =
    subst (IsRefusalIn c.args.body.now) (sym c.refused.ensures)
    (line_cut c.args.body.now c.in_ok-dataset.used (dataset_view c.in_ok-dataset.dataset) c.in_ok-dataset.ensures.within c.in_ok-dataset.ensures.read
    (rw (part-rest c.in_ok-dataset.used c.args.body.now) at (rw c.in-Err-Cut.field-0-is at c.in-Err-Cut.ensures.stop)))

pub returns-clause-refused : goal.returns-clause-refused
returns-clause-refused c =
    let p = rw (part-rest c.in_ok-dataset.used c.args.body.now) at (rw c.in-Err-Differs.field-0-is at c.in-Err-Differs.ensures.stop) in
    subst (IsRefusalIn c.args.body.now) (sym c.refused-in-Err-Differs.ensures)
    (line_refused c.args.body.now c.in_ok-dataset.used c.in-Err-Differs.left c.saturating_sub.result (dataset_view c.in_ok-dataset.dataset) c.in_ok-dataset.ensures.within c.in_ok-dataset.ensures.read
    (omega (arith, c.saturating_sub.ensures, c.in-Err-Differs.left-is)) p)
