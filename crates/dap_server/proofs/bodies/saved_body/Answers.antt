use Rattle.std.proofs.Common.{rules, List, Err, refl}
use Rattle.dap_types.specs.Model.{Tree}
use Rattle.dap_types.specs.View.{dataset_view}
use Rattle.grid_projection.specs.Resolved.{marks_in}
use Rattle.saved_source.specs.Responses.{dataset_in}
use Rattle.dap_server.proofs.SavedBodies as saved_bodies
use Rattle.dap_server.proofs.Sending as sending
use Rattle.dap_server.specs.Files.{saved_stored}
use Rattle.dap_server.specs.Results.{DodsAnswers}
use Rattle.dap_server.specs.inner.Opening.{WhereRefused}
use Rattle.dap_server.proofs.bodies.saved_body.Goals as goal

pub returns-in-Ok-clause-text : goal.returns-in-Ok-clause-text
returns-in-Ok-clause-text c =
    saved_bodies.saved_text (dataset_in c.args.response.saved) c.args.query.now (dataset_view c.in_ok-dataset.dataset) c.in_ok-marked.marked.constraint (marks_in c.in_ok-marked.marked.marks)
    c.args.response.saved c.in-Ok.body c.in_ok-dataset.ensures.dataset c.in_ok-marked.ensures.spelled c.in_ok-marked.ensures.accepted c.in_ok-marked.ensures.marks c.in-Ok.ensures.text (c.in-Ok.ensures.fits refl)

pub returns-clause-refused : goal.returns-clause-refused
returns-clause-refused c =
    saved_bodies.saved_large (dataset_in c.args.response.saved) c.args.query.now (dataset_view c.in_ok-dataset.dataset) c.in_ok-marked.marked.constraint (marks_in c.in_ok-marked.marked.marks)
    c.in-Err.refusal c.saved_stop.result c.in_ok-dataset.ensures.dataset c.in_ok-marked.ensures.spelled c.in_ok-marked.ensures.accepted c.in_ok-marked.ensures.marks c.in-Err.ensures.refused c.saved_stop.ensures

pub returns-in_err-marked-clause-refused : goal.returns-in_err-marked-clause-refused
returns-in_err-marked-clause-refused c =
    let stop : WhereRefused (λ why. (ts : List Tree) → DodsAnswers (saved_stored (dataset_in c.args.response.saved) ts) c.args.query.now (Err why)) c.in_err-marked.field-0.0 =
    sending.refused_stop (saved_stored (dataset_in c.args.response.saved)) c.args.query.now (dataset_view c.in_ok-dataset.dataset) c.in_err-marked.field-0.0
    (λ ts. c.in_ok-dataset.ensures.dataset) c.in_err-marked.ensures.refused in
    search (rules, stop)
