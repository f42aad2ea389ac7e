use Rattle.std.proofs.Common.{◌∙◌, length, sym}
use Rattle.grid_projection.specs.Resolved.{marks_in}
use Rattle.saved_source.proofs.Putting.{none_more}
use Rattle.saved_source.proofs.rows.is_any_marked.Goals as goal

pub loop-k-preserved : goal.loop-k-preserved
loop-k-preserved c = c.loop-k.invariant ∙ none_more (marks_in c.args.marks.now) c.args.first c.loop-k.k (length c.args.columns.now) c.loop-k-test.true (sym c.is_marked.ensures ∙ c.if-is_marked.false)
