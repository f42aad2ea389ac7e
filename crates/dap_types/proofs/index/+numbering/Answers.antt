use Rattle.std.proofs.Common.{◌∷◌, ◌++◌, [], ap, sym, ◌∙◌, rules, subst}
use Rattle.dap_types.proofs.Judging.{parts-fit}
use Rattle.dap_types.proofs.Numbering.{paths-more, numbered-more, paths-end, numbered-end, structure-parts, grid-parts, sequence-parts}
use Rattle.dap_types.specs.Numbered.{Adds, number_in}
use Rattle.dap_types.specs.declared.declarations.Decl.{the_lemmas}
use Rattle.dap_types.proofs.index.+numbering.Goals as goal

pub add_level-loop-decl-preserved : goal.add_level-loop-decl-preserved
add_level-loop-decl-preserved t c =
    let now = number_in c.loop-decl.index in
    let one = number_in c.add.new.self in
    let two = number_in c.add_parts.new.index in
    record {
      counted = numbered-more c.args.decls.now c.loop-decl.decl-index c.loop-decl.number c.args.whole.now now one two c.decl-item.result c.loop-decl-test.true c.decl-item.is
          c.in_ok-number.number _ c.in_ok-number.ensures.0 c.loop-decl.invariant.counted;
      added = λ new more. c.loop-decl.invariant.added new
          (paths-more c.args.decls.now c.loop-decl.decl-index c.loop-decl.number c.args.whole.now now one two c.decl-item.result c.loop-decl-test.true c.decl-item.is
          c.in_ok-number.number new (subst (λ path. Adds now one c.loop-decl.number (path ∷ [])) (c.in_ok-joined.ensures ∙ ap (λ name. c.args.whole.now ++ name ∷ []) c.name.ensures) c.in_ok-add.ensures)
          c.in_ok-number.ensures.0 c.in_ok-number.ensures.1 more);
    }

pub add_level-returns : goal.add_level-returns
add_level-returns t c = (
  numbered-end c.args.decls.now c.loop-decl.decl-index c.loop-decl.number c.args.first c.args.whole.now c.loop-decl-test.false c.loop-decl.invariant.counted,
  c.loop-decl.invariant.added (number_in c.loop-decl.index)
      (paths-end c.args.decls.now c.loop-decl.decl-index c.loop-decl.number c.args.whole.now (number_in c.loop-decl.index) c.loop-decl-test.false),
)

pub add_parts-add_level-requires : goal.add_parts-add_level-requires
add_parts-add_level-requires t c =
    (search (rules, the_lemmas), parts-fit c.args.decl.now c.in-Structure.name c.in-Structure.parts c.items.result.now c.args.first c.in-Structure.is c.items.ensures c.requires)

pub add_parts-returns-in_ok-path-in-Structure : goal.add_parts-returns-in_ok-path-in-Structure
add_parts-returns-in_ok-path-in-Structure t c =
    structure-parts _ _ c.args.first c.args.whole.now c.deref.result.now c.args.decl.now c.in-Structure.name c.add_level.result (c.deref.ensures.value ∙ c.in_ok-path-in-Structure.ensures)
    c.in-Structure.parts c.items.result.now c.in-Structure.is c.items.ensures c.add_level.ensures

pub add_parts-returns-in_ok-add-in-Grid : goal.add_parts-returns-in_ok-add-in-Grid
add_parts-returns-in_ok-add-in-Grid t c =
    let path_is = c.deref-in-Grid.ensures.value ∙ c.in_ok-path-in-Grid.ensures in
    let same = c.deref-in-Grid.ensures.value ∙ sym c.deref-in-Grid-2.ensures.value in
    grid-parts (number_in c.args.index.now) (number_in c.add_arrays.new.index) c.args.first c.args.whole.now c.deref-in-Grid-2.result.now c.args.decl.now c.in-Grid.name c.add_arrays.result (sym same ∙ path_is)
    (number_in c.add.new.self) c.in-Grid.array c.in-Grid.maps c.items-in-Grid.result.now c.in-Grid.is c.items-in-Grid.ensures
    (subst (λ path. Adds (number_in c.args.index.now) (number_in c.add.new.self) c.args.first (path ∷ []))
    (c.in_ok-joined-in-Grid.ensures ∙ ap (λ path. path ++ c.in-Grid.array.name ∷ []) same) c.in_ok-add-in-Grid.ensures) c.add_arrays.ensures

pub add_parts-returns-in_ok-path-in-Sequence : goal.add_parts-returns-in_ok-path-in-Sequence
add_parts-returns-in_ok-path-in-Sequence t c =
    sequence-parts _ _ c.args.first c.args.whole.now c.deref-in-Sequence.result.now c.args.decl.now c.in-Sequence.name c.add_columns.result
    (c.deref-in-Sequence.ensures.value ∙ c.in_ok-path-in-Sequence.ensures) c.in-Sequence.columns c.items-in-Sequence.result.now c.in-Sequence.is c.items-in-Sequence.ensures c.add_columns.ensures
