use Rattle.std.proofs.Common.{sym, ap, ◌∙◌}
use Rattle.std.specs.List.{list_any}
use Rattle.grid_projection.specs.Resolved.{marks_in}
use Rattle.xdr_encode.specs.Rows.{marked_columns}
use Rattle.xdr_encode.proofs.TableSending.{none_marked, sent_marked}
use Rattle.xdr_encode.proofs.make.rows_of.Goals as goal

pub returns-then-any-clause-rows : goal.returns-then-any-clause-rows
returns-then-any-clause-rows c =
    sent_marked c.args.table c.args.mask _ (marks_in c.args.marks.now) (c.in_ok-chosen.ensures.marked ∙ ap (marked_columns (marks_in c.args.marks.now)) c.columns.ensures.count)
    (ap (list_any (λ flag. flag)) (sym c.items.ensures) ∙ sym c.any.ensures ∙ c.if-any.true)

pub returns-else-any-clause-rows : goal.returns-else-any-clause-rows
returns-else-any-clause-rows c =
    none_marked c.args.table c.args.mask _ (marks_in c.args.marks.now) (c.in_ok-chosen.ensures.marked ∙ ap (marked_columns (marks_in c.args.marks.now)) c.columns.ensures.count)
    (ap (list_any (λ flag. flag)) (sym c.items.ensures) ∙ sym c.any.ensures ∙ c.if-any.false)
