use Rattle.std.proofs.Common.{◌+◌, get_or, ap, refl, sym, ◌∙◌, arith}
use Rattle.dap_types.proofs.Views.{view-Base, view-Array, view-Structure, view-Grid, view-Sequence}
use Rattle.dap_types.specs.View.{member_view}
use Rattle.xdr_decode.proofs.Advancing.{cut_back, no_array, no_scalar, no_sequence, past_last, went_grid, went_inside, went_on, went_structure}
use Rattle.xdr_decode.proofs.Texts.{part-rest}
use Rattle.xdr_decode.proofs.path.+advancing.Goals as goal

pub advance-returns-then-at-decls : goal.advance-returns-then-at-decls
advance-returns-then-at-decls t c = λ up at whole long room.
    let items = c.args.path.now.items in (
      c.truncate.ensures.items ∙ cut_back items up at c.args.level whole long,
      past_last items up at c.args.level c.args.decls.now whole long (omega (arith, c.if-level-len.false, c.len.ensures.value)) (rw (sym c.as_slice.ensures.value) c.if-at-decls.true),
    )

pub advance-returns-then-advance_in : goal.advance-returns-then-advance_in
advance-returns-then-advance_in t c =
    went_inside c.args.path.now.items c.as_slice.result.now c.advance_in.new.path.items c.args.level c.args.decls.now c.index-decls-at.result
    c.as_slice.ensures.value (omega (arith, c.if-level-len.false, c.len.ensures.value)) c.if-at-decls.false c.index-decls-at.is c.if-advance_in.ensures

pub advance-returns : goal.advance-returns
advance-returns t c =
    went_on c.enter_first.result c.args.path.now.items c.as_slice.result.now c.advance_in.new.path.items c.truncate-2.new.self.items c.enter_first.new.path.items c.args.level c.args.decls.now _ c.index-decls-at.result
    c.as_slice.ensures.value (omega (arith, c.if-level-len.false, c.len.ensures.value)) c.if-at-decls.false c.index-decls-at.is c.if-advance_in.ensures c.truncate-2.ensures.items (part-rest (get_or c.as_slice.result.now c.args.level 0 + 1) c.args.decls.now) c.enter_first.ensures

pub advance_in-returns-in-Structure : goal.advance_in-returns-in-Structure
advance_in-returns-in-Structure t c =
    went_structure c.advance.result c.args.level c.args.path.now.items c.advance.new.path.items c.in-Structure.field-0 c.items.result.now c.in-Structure.parts (member_view c.args.decl.now)
    (ap member_view c.in-Structure.is ∙ view-Structure _ _) c.items.ensures c.advance.ensures

pub advance_in-returns-in-Grid : goal.advance_in-returns-in-Grid
advance_in-returns-in-Grid t c =
    went_grid c.advance_map.result c.args.level c.args.path.now.items c.advance_map.new.path.items c.in-Grid.field-0 c.in-Grid.field-1 c.items-in-Grid.result.now c.in-Grid.maps _ (member_view c.args.decl.now)
    (ap member_view c.in-Grid.is ∙ view-Grid _ _ _) c.items-in-Grid.ensures refl c.advance_map.ensures

pub advance_in-returns-in-Base : goal.advance_in-returns-in-Base
advance_in-returns-in-Base t c = λ up at whole long room. (at, whole, no_scalar at (member_view c.args.decl.now) c.in-Base.field-0 (ap member_view c.in-Base.is ∙ view-Base _))

pub advance_in-returns-in-Array : goal.advance_in-returns-in-Array
advance_in-returns-in-Array t c = λ up at whole long room. (at, whole, no_array at (member_view c.args.decl.now) c.in-Array.field-0 (ap member_view c.in-Array.is ∙ view-Array _))

pub advance_in-returns-in-Sequence : goal.advance_in-returns-in-Sequence
advance_in-returns-in-Sequence t c = λ up at whole long room. (at, whole, no_sequence at (member_view c.args.decl.now) c.in-Sequence.field-0 c.in-Sequence.field-1 (ap member_view c.in-Sequence.is ∙ view-Sequence _ _))
