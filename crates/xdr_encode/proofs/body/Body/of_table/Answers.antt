use Rattle.std.proofs.Common.{◌≤◌, length, ap, ◌∙◌, subst}
use Rattle.dap_types.specs.View.{dataset_view}
use Rattle.dap_model.specs.Dds.{dds}
use Rattle.dap_model.specs.Filter.{constrained}
use Rattle.grid_projection.specs.Resolved.{marks_in}
use Rattle.xdr_encode.specs.Bodies.{cost_in, text_in}
use Rattle.xdr_encode.specs.Sent.{leaves_xdr}
use Rattle.xdr_encode.proofs.TableSending.{few_columns, no_cost, table_small, table_text}
use Rattle.xdr_encode.proofs.Walk.{leaves-none}
use Rattle.xdr_encode.proofs.body.Body.of_table.Goals as goal

pub rows_of-requires-clause-few : goal.rows_of-requires-clause-few
rows_of-requires-clause-few c = few_columns c.args.table (dataset_view c.args.dataset.now) c.requires.dataset c.requires.well_formed

pub returns-in-Ok-body_of-clause-text : goal.returns-in-Ok-body_of-clause-text
unfolding text_in
returns-in-Ok-body_of-clause-text c = λ file.
    table_text c.args.table c.args.mask (marks_in c.args.marks.now) (dataset_view c.args.dataset.now) c.requires.dataset c.rows_of.ensures.each_row c.bytes.result.now _ _ _
    (c.bytes.ensures ∙ c.in-Ok.ensures.text) c.in-Ok-body_of.ensures.head (c.in-Ok-body_of.ensures.rows ∙ c.in-Ok-rows_of.ensures.rows) (ap (λ ls. leaves_xdr ls file) (c.in-Ok-body_of.ensures.leaves ∙ c.new.ensures) ∙ leaves-none file)

pub returns-in-Ok-body_of-clause-only_small : goal.returns-in-Ok-body_of-clause-only_small
returns-in-Ok-body_of-clause-only_small c = λ e.
    let short : length (dds (constrained (marks_in c.args.marks.now) (dataset_view c.args.dataset.now))) ≤ 16777216 = subst (λ t. length t ≤ 16777216) c.in-Ok.ensures.text c.in-Ok.ensures.short in
    table_small c.args.table (marks_in c.args.marks.now) (dataset_view c.args.dataset.now) c.requires.dataset short

pub returns-in-Ok-body_of-clause-cost : goal.returns-in-Ok-body_of-clause-cost
unfolding cost_in
returns-in-Ok-body_of-clause-cost c = no_cost c.in-Ok-body_of.body.leaves (c.in-Ok-body_of.ensures.leaves ∙ c.new.ensures)
