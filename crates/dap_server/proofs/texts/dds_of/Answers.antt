use Rattle.std.proofs.Common.{rules, Err, List, refl}
use Rattle.dap_types.specs.Model.{Tree}
use Rattle.dap_types.specs.View.{dataset_view}
use Rattle.dap_errors.specs.declared.cause.Cause.{Cause}
use Rattle.dap_model.specs.Dds.{dds}
use Rattle.dap_model.specs.Filter.{constrained}
use Rattle.dap_server.specs.declared.no_answer.Stop.{Stop}
use Rattle.dap_server.specs.declared.no_answer.Stop.TheVariants.{Refused, ShelfFault, Memory}
use Rattle.grid_projection.specs.Resolved.{marks_in}
use Rattle.dap_server.proofs.Answering as answering
use Rattle.dap_server.specs.Results.{DdsAnswers}
use Rattle.dap_server.specs.inner.Opening.{WhereRefused, stored_of}
use Rattle.dap_server.proofs.texts.dds_of.Goals as goal

-- each cause of a refusal answers
for_refused : {P Q : Cause → Type 0} → ((why : Cause) → P why → Q why) → (stop : Stop) → WhereRefused P stop → WhereRefused Q stop
for_refused f (Refused why) p = f why p
for_refused f ShelfFault p = tt
for_refused f Memory p = tt

pub returns-clause-text : goal.returns-clause-text
returns-clause-text c = λ ts.
    answering.dds_short (stored_of c.args.opened.now c.args.name.now ts) c.args.query.now (dataset_view c.in_ok-dataset.dataset) c.in_ok-marked.marked.constraint (marks_in c.in_ok-marked.marked.marks)
    c.in_ok-text.text c.in_ok-dataset.ensures.dataset c.in_ok-marked.ensures.spelled c.in_ok-marked.ensures.accepted
    c.in_ok-marked.ensures.marks c.in_ok-text.ensures.text c.in_ok-text.ensures.short

pub returns-in_err-marked-clause-refused : goal.returns-in_err-marked-clause-refused
returns-in_err-marked-clause-refused c =
    let stop : WhereRefused (λ why. (ts : List Tree) → DdsAnswers (stored_of c.args.opened.now c.args.name.now ts) c.args.query.now (Err why)) c.in_err-marked.field-0.0 =
    answering.dds_refuses c.args.opened.now c.args.name.now c.args.query.now (dataset_view c.in_ok-dataset.dataset) c.in_err-marked.field-0.0 c.in_ok-dataset.ensures.dataset c.in_err-marked.ensures.refused in
    search (rules, stop)

pub returns-in_err-text-clause-refused : goal.returns-in_err-text-clause-refused
returns-in_err-text-clause-refused c =
    let d = dataset_view c.in_ok-dataset.dataset in
    let m = marks_in c.in_ok-marked.marked.marks in
    let stop : WhereRefused (λ why. (ts : List Tree) → DdsAnswers (stored_of c.args.opened.now c.args.name.now ts) c.args.query.now (Err why)) c.in_err-text.field-0.0 =
    for_refused (λ why (is, long) ts. rw is (answering.dds_long (stored_of c.args.opened.now c.args.name.now ts) c.args.query.now d c.in_ok-marked.marked.constraint m
    (dds (constrained m d)) c.in_ok-dataset.ensures.dataset c.in_ok-marked.ensures.spelled c.in_ok-marked.ensures.accepted
    c.in_ok-marked.ensures.marks refl long)) c.in_err-text.field-0.0 c.in_err-text.ensures.refused in
    search (rules, stop)
