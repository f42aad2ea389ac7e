use Rattle.std.proofs.Common.{rules, ◌≤◌, Err, List, ℕ, ap, refl, subst}
use Rattle.dap_model.specs.Body.{body}
use Rattle.dap_model.specs.Filter.{constrained, constrained_trees}
use Rattle.dap_model.specs.Rows.{kept}
use Rattle.dap_types.specs.View.{dataset_view}
use Rattle.grid_projection.specs.Resolved.{marks_in}
use Rattle.join_source.specs.Bodies.{cost_in, text_in}
use Rattle.join_source.specs.Costs.{joined_cost}
use Rattle.join_source.specs.Joins.{members_in, name_in}
use Rattle.join_source.specs.Trees.{joined_trees}
use Rattle.sequence_select.specs.Selections.{selections}
use Rattle.dap_server.proofs.Answering as answering
use Rattle.dap_server.proofs.JoinedSending as joining
use Rattle.dap_server.proofs.Sending as sending
use Rattle.dap_server.specs.Joins.{stored_together}
use Rattle.dap_server.specs.Results.{DodsAnswers}
use Rattle.dap_server.specs.inner.Opening.{WhereRefused}
use Rattle.dap_server.proofs.joined_texts.join_body.Goals as goal

pub returns-in-Ok-clause-text : goal.returns-in-Ok-clause-text
returns-in-Ok-clause-text c = λ files have.
    answering.dods_small (stored_together (name_in c.args.joined.now) (members_in c.args.joined.now) files) c.args.query.now (dataset_view c.in_ok-dataset.dataset) c.in_ok-marked.marked.constraint
    (marks_in c.in_ok-marked.marked.marks) (text_in c.in-Ok.body files) c.in_ok-dataset.ensures.joined c.in_ok-marked.ensures.spelled c.in_ok-marked.ensures.accepted c.in_ok-marked.ensures.marks
    (c.in-Ok.ensures.only_small refl) (c.in-Ok.ensures.text files (kept (selections (dataset_view c.in_ok-dataset.dataset) c.in_ok-marked.marked.constraint)) have)

pub returns-in-Ok-clause-accepted : goal.returns-in-Ok-clause-accepted
returns-in-Ok-clause-accepted c = λ files.
    let d = dataset_view c.in_ok-dataset.dataset in
    let m = marks_in c.in_ok-marked.marked.marks in
    let text : List ℕ = body (constrained m d) (constrained_trees m (kept (selections d c.in_ok-marked.marked.constraint)) d (joined_trees (members_in c.args.joined.now) files)) in (
      text,
      answering.dods_small (stored_together (name_in c.args.joined.now) (members_in c.args.joined.now) files) c.args.query.now d c.in_ok-marked.marked.constraint m text c.in_ok-dataset.ensures.joined
          c.in_ok-marked.ensures.spelled c.in_ok-marked.ensures.accepted c.in_ok-marked.ensures.marks (c.in-Ok.ensures.only_small refl) refl,
    )

pub returns-in-Ok-clause-cost : goal.returns-in-Ok-clause-cost
returns-in-Ok-clause-cost c = (
  c.in_ok-marked.marked.constraint,
  c.in_ok-marked.ensures.spelled,
  subst (λ n. cost_in c.in-Ok.body ≤ joined_cost (members_in c.args.joined.now) n)
      (joining.marked_as (members_in c.args.joined.now) (name_in c.args.joined.now) c.in_ok-marked.marked.constraint (dataset_view c.in_ok-dataset.dataset) (marks_in c.in_ok-marked.marked.marks) c.in_ok-dataset.ensures.joined c.in_ok-marked.ensures.marks)
      c.in-Ok.ensures.cost,
)

pub returns-in-Ok-clause-cost_at : goal.returns-in-Ok-clause-cost_at
returns-in-Ok-clause-cost_at c = (
  c.in_ok-marked.marked.constraint,
  c.in_ok-marked.ensures.spelled,
  λ files put cost have may.
      joining.asks_as (members_in c.args.joined.now) (name_in c.args.joined.now) c.in_ok-marked.marked.constraint (dataset_view c.in_ok-dataset.dataset) (marks_in c.in_ok-marked.marked.marks) files put cost
      c.in_ok-dataset.ensures.joined c.in_ok-marked.ensures.marks (c.in-Ok.ensures.asks files have put cost may),
)

pub returns-clause-refused : goal.returns-clause-refused
returns-clause-refused c =
    sending.large_stop (λ files. stored_together (name_in c.args.joined.now) (members_in c.args.joined.now) files) c.args.query.now (dataset_view c.in_ok-dataset.dataset) c.in_ok-marked.marked.constraint
    (marks_in c.in_ok-marked.marked.marks) c.in-Err.refusal c.body_stop.result (λ files. c.in_ok-dataset.ensures.joined) c.in_ok-marked.ensures.spelled c.in_ok-marked.ensures.accepted c.in_ok-marked.ensures.marks
    (λ leaf is. c.in-Err.ensures.refused leaf (ap Err is)) c.body_stop.ensures

pub returns-in_err-marked-clause-refused : goal.returns-in_err-marked-clause-refused
returns-in_err-marked-clause-refused c =
    let stop : WhereRefused (λ why. (files : List (List ℕ)) → DodsAnswers (stored_together (name_in c.args.joined.now) (members_in c.args.joined.now) files) c.args.query.now (Err why)) c.in_err-marked.field-0.0 =
    sending.refused_stop (λ files. stored_together (name_in c.args.joined.now) (members_in c.args.joined.now) files) c.args.query.now (dataset_view c.in_ok-dataset.dataset) c.in_err-marked.field-0.0
    (λ files. c.in_ok-dataset.ensures.joined) c.in_err-marked.ensures.refused in
    search (rules, stop)
