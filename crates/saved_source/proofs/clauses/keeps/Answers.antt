use Rattle.std.proofs.Common.{◌+◌, ◌-◌, ◌∙◌, ap, drop, refl, subst, sym}
use Rattle.plain_lemmas.proofs.Lists.{drop_here}
use Rattle.dap_model.specs.Rows.{holds}
use Rattle.sequence_select.specs.Tests.{selection_of}
use Rattle.saved_source.proofs.RowClauses.{behind_columns, cell_is, one_clause}
use Rattle.xdr_values.specs.Walked.{StandsValue}
use Rattle.saved_source.proofs.clauses.keeps.Goals as goal

pub returns-then-at-columns : goal.returns-then-at-columns
returns-then-at-columns c = λ cells rest st.
    sym (behind_columns c.args.sequence c.args.columns.now cells c.args.row.now rest (selection_of c.args.test.now) (c.args.test.now.column - c.args.sequence - 1) st c.if-test-sequence.false refl c.if-at-columns.true)

pub returns : goal.returns
returns c = λ cells rest st.
    let i = c.args.test.now.column - c.args.sequence - 1 in
    let column = c.index-columns-at.result in
    let here = drop_here c.args.columns.now i column c.if-at-columns.false c.index-columns-at.is in
    let f = cell_is i column c.args.columns.now (drop (i + 1) c.args.columns.now) cells c.args.row.now rest c.behind_cells-before.result.now st here c.behind_cells-before.ensures.rest in
    c.holds.ensures ∙ ap (holds (selection_of c.args.test.now)) (c.cell_of.ensures f.value (c.value.ensures.own f.value f.behind (subst (λ d. StandsValue d.base f.value c.behind_cells-before.result.now f.behind) c.index-columns-at.is f.stands)))
    ∙ sym (one_clause c.args.sequence cells (selection_of c.args.test.now) i f.value c.if-test-sequence.false refl f.is)
