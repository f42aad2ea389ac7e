use Rattle.std.proofs.Common.{◌≡◌, [], ◌∷◌, true, false, cond, sym, ◌∙◌, ap, append-nil}
use Rattle.dap_types.proofs.Views.{view-Sequence}
use Rattle.dap_types.specs.Model.{sequence}
use Rattle.grid_projection.specs.inner.Left.{are_left}
use Rattle.grid_projection.specs.Resolved.{marks_in}
use Rattle.grid_projection.proofs.Leaving.{pushed, left_sequence, are_left_some, are_left_none}
use Rattle.grid_projection.proofs.sequences.leave_sequence.Goals as goal

pub returns-then-is_empty : goal.returns-then-is_empty
returns-then-is_empty c =
    let left = left_sequence (marks_in c.args.marks.now) c.args.number c.args.name.now c.args.columns.now c.in_ok-kept.kept c.in_ok-kept.ensures in
    let none : are_left c.in_ok-kept.kept ≡ false = are_left_none c.in_ok-kept.kept c.is_empty.result (rw c.items.ensures at c.is_empty.ensures) c.if-is_empty.true in
    rw (left, none) (sym (append-nil _))

pub returns : goal.returns
returns c =
    let left = left_sequence (marks_in c.args.marks.now) c.args.number c.args.name.now c.args.columns.now c.in_ok-kept.kept c.in_ok-kept.ensures in
    let some : are_left c.in_ok-kept.kept ≡ true = are_left_some c.in_ok-kept.kept c.is_empty.result (rw c.items.ensures at c.is_empty.ensures) c.if-is_empty.false in
    pushed _ _ _ _ _ c.in_ok-push.ensures.ok (view-Sequence c.in_ok-try_clone.field-0 c.in_ok-kept.kept ∙ ap (λ n. sequence n c.in_ok-kept.kept) c.in_ok-try_clone.ensures)
    (left ∙ ap (λ b. cond b (sequence c.args.name.now c.in_ok-kept.kept ∷ []) []) some)
