use Rattle.std.proofs.Common.{rules, Err, ap, refl}
use Rattle.dap_types.specs.View.{dataset_view}
use Rattle.grid_projection.specs.Resolved.{marks_in}
use Rattle.xdr_encode.specs.Bodies.{text_in}
use Rattle.dap_server.proofs.Sending as sending
use Rattle.dap_server.specs.Files.{table_stored}
use Rattle.dap_server.specs.Results.{DodsAnswers}
use Rattle.dap_server.specs.inner.Opening.{WhereRefused}
use Rattle.dap_server.proofs.bodies.table_body.Goals as goal

pub returns-in-Ok-clause-text : goal.returns-in-Ok-clause-text
returns-in-Ok-clause-text g c = λ held.
    sending.table_small c.args.table c.args.query.now (dataset_view c.in_ok-dataset.dataset) c.in_ok-marked.marked.constraint (marks_in c.in_ok-marked.marked.marks) c.in_ok-rows.rows
    (text_in c.in-Ok.body held) c.in_ok-dataset.ensures.dataset c.in_ok-marked.ensures.spelled c.in_ok-marked.ensures.accepted c.in_ok-marked.ensures.marks c.in_ok-rows.ensures
    (c.in-Ok.ensures.only_small refl) (c.in-Ok.ensures.text held)

pub returns-clause-refused : goal.returns-clause-refused
returns-clause-refused g c =
    sending.alone_stop c.body_stop.result _ (sending.large_stop (λ bytes. table_stored c.args.table) c.args.query.now (dataset_view c.in_ok-dataset.dataset) c.in_ok-marked.marked.constraint
    (marks_in c.in_ok-marked.marked.marks) c.in-Err.refusal c.body_stop.result (λ bytes. c.in_ok-dataset.ensures.dataset) c.in_ok-marked.ensures.spelled c.in_ok-marked.ensures.accepted
    c.in_ok-marked.ensures.marks (λ leaf is. c.in-Err.ensures.refused leaf (ap Err is)) c.body_stop.ensures)

pub returns-in_err-marked-clause-refused : goal.returns-in_err-marked-clause-refused
returns-in_err-marked-clause-refused g c =
    let stop : WhereRefused (λ why. DodsAnswers (table_stored c.args.table) c.args.query.now (Err why)) c.in_err-marked.field-0.0 =
    sending.alone_stop c.in_err-marked.field-0.0 _ (sending.refused_stop (λ bytes. table_stored c.args.table) c.args.query.now (dataset_view c.in_ok-dataset.dataset) c.in_err-marked.field-0.0
    (λ bytes. c.in_ok-dataset.ensures.dataset) c.in_err-marked.ensures.refused) in
    search (rules, stop)
