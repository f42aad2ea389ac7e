use Rattle.std.proofs.Common.{arith, sym, ◌∙◌}
use Rattle.sequence_select.proofs.RowFacts.{behind_columns, one-clause}
use Rattle.sequence_select.proofs.rows.keeps.Goals as goal

pub returns-then-column-columns : goal.returns-then-column-columns
returns-then-column-columns c = sym (behind_columns c.args.table.now c.args.row c.args.test.now c.columns.ensures.each_row (omega (arith, c.if-column-columns.true, c.columns.ensures.count)) (omega (arith, c.if-test-lt2.false)))

pub returns : goal.returns
returns c = c.holds.ensures ∙ sym (one-clause c.args.table.now c.args.row c.args.test.now _ (omega (arith, c.if-test-lt2.false)) c.cell.ensures.value)
