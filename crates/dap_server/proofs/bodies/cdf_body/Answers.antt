use Rattle.std.proofs.Common.{rules, ◌≤◌, ◌∙◌, Err, List, ℕ, ap, refl, subst}
use Rattle.dap_model.specs.Body.{body}
use Rattle.dap_model.specs.Filter.{constrained, constrained_trees}
use Rattle.dap_model.specs.Rows.{kept}
use Rattle.dap_types.specs.View.{dataset_view}
use Rattle.grid_projection.specs.Resolved.{marks_in}
use Rattle.netcdf_source.specs.Mapping.{dataset_of}
use Rattle.netcdf_source.specs.Values.{file_trees}
use Rattle.sequence_select.specs.Selections.{selections}
use Rattle.xdr_encode.specs.Bodies.{cost_in, text_in}
use Rattle.xdr_encode.specs.Costs.{marks_cost}
use Rattle.dap_server.proofs.Answering as answering
use Rattle.dap_server.proofs.Sending as sending
use Rattle.dap_server.specs.Files.{netcdf_stored}
use Rattle.dap_server.specs.Results.{DodsAnswers}
use Rattle.dap_server.specs.inner.Opening.{WhereRefused}
use Rattle.dap_server.proofs.bodies.cdf_body.Goals as goal

pub returns-in-Ok-clause-text : goal.returns-in-Ok-clause-text
returns-in-Ok-clause-text c = λ bytes has.
    let is_d = c.in_ok-dataset.ensures.mapped ∙ ap (dataset_of c.args.header.now.contents) c.as_bytes.ensures.value in
    answering.dods_small (netcdf_stored c.args.name.now bytes c.args.header.now.contents) c.args.query.now (dataset_view c.in_ok-dataset.dataset) c.in_ok-marked.marked.constraint
    (marks_in c.in_ok-marked.marked.marks) (text_in c.in-Ok.body bytes) is_d c.in_ok-marked.ensures.spelled c.in_ok-marked.ensures.accepted c.in_ok-marked.ensures.marks
    (c.in-Ok.ensures.only_small refl) (c.in-Ok.ensures.text bytes (kept (selections (dataset_view c.in_ok-dataset.dataset) c.in_ok-marked.marked.constraint)) has)

pub returns-in-Ok-clause-accepted : goal.returns-in-Ok-clause-accepted
returns-in-Ok-clause-accepted c = λ bytes.
    let is_d = c.in_ok-dataset.ensures.mapped ∙ ap (dataset_of c.args.header.now.contents) c.as_bytes.ensures.value in
    let d = dataset_view c.in_ok-dataset.dataset in
    let m = marks_in c.in_ok-marked.marked.marks in
    let text : List ℕ = body (constrained m d) (constrained_trees m (kept (selections d c.in_ok-marked.marked.constraint)) d (file_trees c.args.header.now.contents bytes)) in (
      text,
      answering.dods_small (netcdf_stored c.args.name.now bytes c.args.header.now.contents) c.args.query.now d c.in_ok-marked.marked.constraint m text is_d c.in_ok-marked.ensures.spelled
          c.in_ok-marked.ensures.accepted c.in_ok-marked.ensures.marks (c.in-Ok.ensures.only_small refl) refl,
    )

pub returns-in-Ok-clause-cost : goal.returns-in-Ok-clause-cost
returns-in-Ok-clause-cost c =
    let is_d = c.in_ok-dataset.ensures.mapped ∙ ap (dataset_of c.args.header.now.contents) c.as_bytes.ensures.value in (
      c.in_ok-marked.marked.constraint,
      c.in_ok-marked.ensures.spelled,
      subst (λ n. cost_in c.in-Ok.body ≤ marks_cost c.args.header.now.contents n)
          (sending.marked_as c.args.header.now.contents c.args.name.now c.in_ok-marked.marked.constraint (dataset_view c.in_ok-dataset.dataset) (marks_in c.in_ok-marked.marked.marks) is_d c.in_ok-marked.ensures.marks)
          c.in-Ok.ensures.cost,
    )

pub returns-in-Ok-clause-cost_at : goal.returns-in-Ok-clause-cost_at
returns-in-Ok-clause-cost_at c =
    let is_d = c.in_ok-dataset.ensures.mapped ∙ ap (dataset_of c.args.header.now.contents) c.as_bytes.ensures.value in (
      c.in_ok-marked.marked.constraint,
      c.in_ok-marked.ensures.spelled,
      λ bytes put cost has may.
          sending.asks_as c.args.header.now.contents c.args.name.now c.in_ok-marked.marked.constraint (dataset_view c.in_ok-dataset.dataset) (marks_in c.in_ok-marked.marked.marks) bytes put cost is_d
          c.in_ok-marked.ensures.marks (c.in-Ok.ensures.asks bytes has put cost may),
    )

pub returns-clause-refused : goal.returns-clause-refused
returns-clause-refused c =
    let is_d = c.in_ok-dataset.ensures.mapped ∙ ap (dataset_of c.args.header.now.contents) c.as_bytes.ensures.value in
    sending.large_stop (λ bytes. netcdf_stored c.args.name.now bytes c.args.header.now.contents) c.args.query.now (dataset_view c.in_ok-dataset.dataset) c.in_ok-marked.marked.constraint
    (marks_in c.in_ok-marked.marked.marks) c.in-Err.refusal c.body_stop.result (λ bytes. is_d) c.in_ok-marked.ensures.spelled c.in_ok-marked.ensures.accepted c.in_ok-marked.ensures.marks
    (λ leaf is. c.in-Err.ensures.refused leaf (ap Err is)) c.body_stop.ensures

pub returns-in_err-marked-clause-refused : goal.returns-in_err-marked-clause-refused
returns-in_err-marked-clause-refused c =
    let is_d = c.in_ok-dataset.ensures.mapped ∙ ap (dataset_of c.args.header.now.contents) c.as_bytes.ensures.value in
    let stop : WhereRefused (λ why. (bytes : List ℕ) → DodsAnswers (netcdf_stored c.args.name.now bytes c.args.header.now.contents) c.args.query.now (Err why)) c.in_err-marked.field-0.0 =
    sending.refused_stop (λ bytes. netcdf_stored c.args.name.now bytes c.args.header.now.contents) c.args.query.now (dataset_view c.in_ok-dataset.dataset) c.in_err-marked.field-0.0 (λ bytes. is_d)
    c.in_err-marked.ensures.refused in
    search (rules, stop)
