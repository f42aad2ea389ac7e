use Rattle.std.proofs.Common.{ap, refl, ◌∙◌, subst, arith}
use Rattle.dap_types.proofs.Views.{view-Base, view-Array, view-Structure, view-Grid, view-Sequence}
use Rattle.dap_types.specs.View.{member_view}
use Rattle.xdr_decode.proofs.Entering.{entered_loop, preserved_loop, put_back, room_behind, start_array, start_grid, start_scalar, start_sequence, start_structure}
use Rattle.xdr_decode.specs.inner.Places.{IsInside}
use Rattle.xdr_decode.proofs.path.+entering.Goals as goal

pub enter-returns-in-Base : goal.enter-returns-in-Base
enter-returns-in-Base t c = λ room. start_scalar c.args.path.now.items (member_view c.args.decl.now) c.in-Base.field-0 (ap member_view c.in-Base.is ∙ view-Base _)

pub enter-returns-in-Array : goal.enter-returns-in-Array
enter-returns-in-Array t c = λ room. start_array c.args.path.now.items (member_view c.args.decl.now) c.in-Array.field-0 (ap member_view c.in-Array.is ∙ view-Array _)

pub enter-returns-in-Sequence : goal.enter-returns-in-Sequence
enter-returns-in-Sequence t c = λ room. start_sequence c.args.path.now.items (member_view c.args.decl.now) c.in-Sequence.field-0 c.in-Sequence.field-1 (ap member_view c.in-Sequence.is ∙ view-Sequence _ _)

pub enter-returns-in-Structure : goal.enter-returns-in-Structure
enter-returns-in-Structure t c = λ room.
    start_structure c.enter_first.result c.args.path.now.items c.enter_first.new.path.items c.in-Structure.field-0 c.items.result.now c.in-Structure.parts (member_view c.args.decl.now)
    (ap member_view c.in-Structure.is ∙ view-Structure c.in-Structure.field-0 c.in-Structure.parts) c.items.ensures room c.enter_first.ensures

pub enter-returns-in-Grid : goal.enter-returns-in-Grid
enter-returns-in-Grid t c = λ room.
    start_grid c.push.result c.args.path.now.items c.push.new.path.items c.in-Grid.field-0 c.in-Grid.field-1 c.in-Grid.field-2 (member_view c.args.decl.now) (ap member_view c.in-Grid.is ∙ view-Grid _ _ _) room c.push.ensures

pub enter_at-returns-then-not-push : goal.enter_at-returns-then-not-push
enter_at-returns-then-not-push t c = λ short room fits. absurd (omega (arith, short, c.if-not-push.ensures.1 fits))

pub enter_at-returns-then-enter : goal.enter_at-returns-then-enter
enter_at-returns-then-enter t c = λ short room fits.
    let one = c.if-not-push.ensures.1 in
    subst (λ l. IsInside (member_view c.args.decl.now) l c.enter.new.path.items) one (c.if-enter.ensures (room_behind c.args.path.now.items c.push.new.path.items c.args.at (member_view c.args.decl.now) one room))

pub enter_at-returns : goal.enter_at-returns
enter_at-returns t c = λ short room fits.
    let one = c.if-not-push.ensures.1 in
    let (rest, more, empty) = c.if-enter.ensures (room_behind c.args.path.now.items c.push.new.path.items c.args.at (member_view c.args.decl.now) one room) in
    (c.truncate.ensures.items ∙ put_back c.args.path.now.items c.push.new.path.items c.enter.new.path.items rest c.args.at c.len-level.result one more c.len-level.ensures.value, empty)

pub enter_first-returns-then-enter_at : goal.enter_first-returns-then-enter_at
enter_first-returns-then-enter_at t c = λ room fits.
    let kept = c.loop-at.invariant room fits in
    entered_loop c.args.path.now.items c.loop-at.path.items c.enter_at.new.path.items c.args.from c.loop-at.at _ c.args.decls.now c.index-decls-at.result c.loop-at-test.true c.index-decls-at.is room fits
    kept.same kept.empty refl c.if-enter_at.ensures

pub enter_first-loop-at-preserved : goal.enter_first-loop-at-preserved
enter_first-loop-at-preserved t c = λ room fits.
    let kept = c.loop-at.invariant room fits in
    let both = preserved_loop c.args.path.now.items c.loop-at.path.items c.enter_at.new.path.items c.args.from c.loop-at.at _ c.args.decls.now c.index-decls-at.result c.loop-at-test.true c.index-decls-at.is room fits
    kept.same kept.empty refl c.if-enter_at.ensures in
    record { same = both.0; empty = both.1 }
