use Rattle.std.proofs.Common.{◌∙◌, ap, IfErr, IfOk, rules, subst, sym}
use Rattle.dap_types.proofs.Views.{view-Array, view-Base, view-Grid, view-Sequence, view-Structure}
use Rattle.dap_types.specs.View.{member_view, members_view, tree_view}
use Rattle.dap_model.specs.Fits.{Fits}
use Rattle.dap_model.specs.Xdr.{fields}
use Rattle.xdr_fields.specs.Wants.{wants, wants_all}
use Rattle.xdr_decode.proofs.Turns.{members_fit, members_push, members_read, members_stopped}
use Rattle.xdr_decode.proofs.Variables.{grid_fits, grid_read, grid_stop, scalar_fits, scalar_read, scalar_stop, sequence_fits, sequence_read, sequence_stop, structure_fits, structure_read, structure_stop}
use Rattle.xdr_decode.specs.inner.Taken.{Spelt, Stops}
use Rattle.xdr_decode.proofs.trees.+variables.Goals as goal

pub member-returns-in_err-value-in-Base-clause-stop : goal.member-returns-in_err-value-in-Base-clause-stop
member-returns-in_err-value-in-Base-clause-stop t c = λ above.
    let stop : Stops (wants above (member_view c.args.decl.now)) c.args.bytes.now c.in_err-value-in-Base.field-0.0 =
    scalar_stop above (member_view c.args.decl.now) c.in-Base.column c.args.bytes.now _ (ap member_view c.in-Base.is ∙ view-Base c.in-Base.column) c.in_err-value-in-Base.ensures.stop in
    search (rules, stop)

pub member-returns-in_ok-value-in-Base-clause-fits : goal.member-returns-in_ok-value-in-Base-clause-fits
member-returns-in_ok-value-in-Base-clause-fits t c =
    scalar_fits (member_view c.args.decl.now) c.in-Base.column _ (ap member_view c.in-Base.is ∙ view-Base c.in-Base.column) c.in_ok-value-in-Base.ensures.fits

pub member-returns-in_ok-value-in-Base-clause-read : goal.member-returns-in_ok-value-in-Base-clause-read
member-returns-in_ok-value-in-Base-clause-read t c =
    scalar_read (member_view c.args.decl.now) c.in-Base.column _ c.args.bytes.now _ (ap member_view c.in-Base.is ∙ view-Base c.in-Base.column) c.in_ok-value-in-Base.ensures.read

pub member-returns-in-Array-clause-fits : goal.member-returns-in-Array-clause-fits
member-returns-in-Array-clause-fits t c = subst (λ m. IfOk c.array.result (λ r. Fits m (tree_view r.0))) (sym (ap member_view c.in-Array.is ∙ view-Array _)) c.array.ensures.fits

pub member-returns-in-Array-clause-read : goal.member-returns-in-Array-clause-read
member-returns-in-Array-clause-read t c =
    subst (λ m. IfOk c.array.result (λ r. Spelt (fields m (tree_view r.0)) c.args.bytes.now r.1.now)) (sym (ap member_view c.in-Array.is ∙ view-Array _)) c.array.ensures.read

pub member-returns-in-Array-clause-stop : goal.member-returns-in-Array-clause-stop
member-returns-in-Array-clause-stop t c = λ above.
    subst (λ m. IfErr c.array.result (Stops (wants above m) c.args.bytes.now)) (sym (ap member_view c.in-Array.is ∙ view-Array _)) (c.array.ensures.stop above)

pub member-returns-in_err-trees-in-Structure-clause-stop : goal.member-returns-in_err-trees-in-Structure-clause-stop
member-returns-in_err-trees-in-Structure-clause-stop t c = λ above.
    let stop : Stops (wants above (member_view c.args.decl.now)) c.args.bytes.now c.in_err-trees-in-Structure.field-0.0 =
    structure_stop above (member_view c.args.decl.now) c.in-Structure.field-0 (members_view c.in-Structure.parts) c.args.bytes.now _ (ap member_view c.in-Structure.is ∙ view-Structure c.in-Structure.field-0 c.in-Structure.parts)
    (rw c.items.ensures at c.in_err-trees-in-Structure.ensures.stop) in
    search (rules, stop)

pub member-returns-in_ok-trees-in-Structure-clause-fits : goal.member-returns-in_ok-trees-in-Structure-clause-fits
member-returns-in_ok-trees-in-Structure-clause-fits t c =
    structure_fits (member_view c.args.decl.now) c.in-Structure.field-0 (members_view c.in-Structure.parts) _ (ap member_view c.in-Structure.is ∙ view-Structure c.in-Structure.field-0 c.in-Structure.parts)
    (rw c.items.ensures at c.in_ok-trees-in-Structure.ensures.fits)

pub member-returns-in_ok-trees-in-Structure-clause-read : goal.member-returns-in_ok-trees-in-Structure-clause-read
member-returns-in_ok-trees-in-Structure-clause-read t c =
    structure_read (member_view c.args.decl.now) c.in-Structure.field-0 (members_view c.in-Structure.parts) _ c.args.bytes.now _ (ap member_view c.in-Structure.is ∙ view-Structure c.in-Structure.field-0 c.in-Structure.parts)
    (rw c.items.ensures at c.in_ok-trees-in-Structure.ensures.read)

pub member-returns-in_err-trees-in-Grid-clause-stop : goal.member-returns-in_err-trees-in-Grid-clause-stop
member-returns-in_err-trees-in-Grid-clause-stop t c = λ above.
    let stop : Stops (wants above (member_view c.args.decl.now)) c.args.bytes.now c.in_err-trees-in-Grid.field-0.0 =
    grid_stop above (member_view c.args.decl.now) c.in-Grid.field-0 c.in-Grid.array c.in-Grid.maps c.args.bytes.now _ (ap member_view c.in-Grid.is ∙ view-Grid c.in-Grid.field-0 c.in-Grid.array c.in-Grid.maps)
    (rw c.items-in-Grid.ensures at c.in_err-trees-in-Grid.ensures.stop) in
    search (rules, stop)

pub member-returns-in_ok-trees-in-Grid-clause-fits : goal.member-returns-in_ok-trees-in-Grid-clause-fits
member-returns-in_ok-trees-in-Grid-clause-fits t c =
    grid_fits (member_view c.args.decl.now) c.in-Grid.field-0 c.in-Grid.array c.in-Grid.maps _ (ap member_view c.in-Grid.is ∙ view-Grid c.in-Grid.field-0 c.in-Grid.array c.in-Grid.maps)
    (rw c.items-in-Grid.ensures at c.in_ok-trees-in-Grid.ensures.fits)

pub member-returns-in_ok-trees-in-Grid-clause-read : goal.member-returns-in_ok-trees-in-Grid-clause-read
member-returns-in_ok-trees-in-Grid-clause-read t c =
    grid_read (member_view c.args.decl.now) c.in-Grid.field-0 c.in-Grid.array c.in-Grid.maps _ c.args.bytes.now _ (ap member_view c.in-Grid.is ∙ view-Grid c.in-Grid.field-0 c.in-Grid.array c.in-Grid.maps)
    (rw c.items-in-Grid.ensures at c.in_ok-trees-in-Grid.ensures.read)

pub member-returns-in_err-rows-in-Sequence-clause-stop : goal.member-returns-in_err-rows-in-Sequence-clause-stop
member-returns-in_err-rows-in-Sequence-clause-stop t c = λ above.
    let stop : Stops (wants above (member_view c.args.decl.now)) c.args.bytes.now c.in_err-rows-in-Sequence.field-0.0 =
    sequence_stop above (member_view c.args.decl.now) c.in-Sequence.field-0 c.in-Sequence.columns c.args.bytes.now _ (ap member_view c.in-Sequence.is ∙ view-Sequence c.in-Sequence.field-0 c.in-Sequence.columns)
    (rw c.items-in-Sequence.ensures at c.in_err-rows-in-Sequence.ensures.stop) in
    search (rules, stop)

pub member-returns-in_ok-rows-in-Sequence-clause-fits : goal.member-returns-in_ok-rows-in-Sequence-clause-fits
member-returns-in_ok-rows-in-Sequence-clause-fits t c =
    sequence_fits (member_view c.args.decl.now) c.in-Sequence.field-0 c.in-Sequence.columns _ (ap member_view c.in-Sequence.is ∙ view-Sequence c.in-Sequence.field-0 c.in-Sequence.columns)
    (rw c.items-in-Sequence.ensures at c.in_ok-rows-in-Sequence.ensures.fits)

pub member-returns-in_ok-rows-in-Sequence-clause-read : goal.member-returns-in_ok-rows-in-Sequence-clause-read
member-returns-in_ok-rows-in-Sequence-clause-read t c =
    sequence_read (member_view c.args.decl.now) c.in-Sequence.field-0 c.in-Sequence.columns _ c.args.bytes.now _ (ap member_view c.in-Sequence.is ∙ view-Sequence c.in-Sequence.field-0 c.in-Sequence.columns)
    (rw c.items-in-Sequence.ensures at c.in_ok-rows-in-Sequence.ensures.read)

pub members-returns-in_err-tree-clause-stop : goal.members-returns-in_err-tree-clause-stop
members-returns-in_err-tree-clause-stop t c = λ above.
    let stop : Stops (wants_all above (members_view c.args.decls.now)) c.args.bytes.now c.in_err-tree.field-0.0 =
    members_stopped c.args.decls.now _ _ c.args.bytes.now _ c.decl-item.result _ c.loop-decl.invariant c.loop-decl-test.true c.decl-item.is c.in_err-tree.ensures.stop above in
    search (rules, stop)

pub members-loop-decl-preserved : goal.members-loop-decl-preserved
members-loop-decl-preserved t c =
    members_push c.args.decls.now _ _ _ c.args.bytes.now _ _ c.decl-item.result _ c.loop-decl.invariant c.loop-decl-test.true c.decl-item.is c.in_ok-push.ensures.ok c.in_ok-tree.ensures.fits c.in_ok-tree.ensures.read

pub members-returns-clause-fits : goal.members-returns-clause-fits
members-returns-clause-fits t c = members_fit c.args.decls.now _ _ c.args.bytes.now _ c.loop-decl.invariant c.loop-decl-test.false

pub members-returns-clause-read : goal.members-returns-clause-read
members-returns-clause-read t c = members_read c.args.decls.now _ _ c.args.bytes.now _ c.loop-decl.invariant c.loop-decl-test.false
