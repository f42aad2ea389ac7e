use Rattle.std.proofs.Common.{◌∙◌, sym, ap, rules, w64}
use Rattle.std.specs.List.{list_any}
use Rattle.std.proofs.lemmas.Int.{to_z-of_z}
use Rattle.std.specs.Cmp.Lexicographic.{slice_cmp}
use Rattle.std.specs.Ordering.{int_cmp, nat_cmp}
use Rattle.csv_source.specs.Lent.{lent_value}
use Rattle.dap_model.specs.Rows.{holds}
use Rattle.sequence_select.specs.Selections.{relation_of}
use Rattle.sequence_select.specs.Tests.{selection_of}
use Rattle.sequence_select.proofs.ByKind.{number-holds, text-holds, float-holds, double-holds}
use Rattle.sequence_select.proofs.clauses.holds.Goals as goal
use mir.Val.{SFits}

pub returns-in-Whole : goal.returns-in-Whole
returns-in-Whole c =
    let t = c.args.test.now in
    let fits : SFits w64 c.in-Whole.number = search rules in
    c.relates.ensures ∙ ap (λ z. list_any (λ b. relation_of t.op (int_cmp z b)) t.numbers.sorted.items) (to_z-of_z w64 _ fits) ∙ t.same_numbers (λ b. relation_of t.op (int_cmp c.in-Whole.number b))
    ∙ sym (number-holds t.column (relation_of t.op) t.operands c.in-Whole.number) ∙ ap (λ cell. holds (selection_of t) (lent_value cell)) (sym c.in-Whole.is)

pub returns-in-Text : goal.returns-in-Text
returns-in-Text c =
    let t = c.args.test.now in
    c.relates-in-Text.ensures ∙ t.same_texts (λ b. relation_of t.op (slice_cmp nat_cmp c.in-Text.text.now b))
    ∙ sym (text-holds t.column (relation_of t.op) t.operands c.in-Text.text.now) ∙ ap (λ cell. holds (selection_of t) (lent_value cell)) (sym c.in-Text.is)

pub returns-in-Bits32 : goal.returns-in-Bits32
returns-in-Bits32 c =
    let t = c.args.test.now in
    sym (float-holds t.column (relation_of t.op) t.operands c.in-Bits32.field-0) ∙ ap (λ cell. holds (selection_of t) (lent_value cell)) (sym c.in-Bits32.is)

pub returns-in-Bits64 : goal.returns-in-Bits64
returns-in-Bits64 c =
    let t = c.args.test.now in
    sym (double-holds t.column (relation_of t.op) t.operands c.in-Bits64.field-0) ∙ ap (λ cell. holds (selection_of t) (lent_value cell)) (sym c.in-Bits64.is)
