use Rattle.std.proofs.Common.{◌∙◌, sym}
use Rattle.sequence_select.proofs.RowFacts.{not-kept}
use Rattle.sequence_select.proofs.rows.keep.Goals as goal

pub returns-then-not-keeps : goal.returns-then-not-keeps
returns-then-not-keeps c = sym (not-kept c.args.table.now c.args.row c.args.tests.now.tests c.items-test-items.result.now c.items-test-items.ensures c.loop-test.test-index c.test-item.result c.loop-test-test.true c.test-item.is (sym c.keeps.ensures ∙ c.if-not-keeps.true))
