use Rattle.std.proofs.Common.{rules, Err, List, ℕ, refl}
use Rattle.dap_types.specs.View.{dataset_view}
use Rattle.dap_model.specs.Dds.{dds}
use Rattle.dap_model.specs.Filter.{constrained}
use Rattle.grid_projection.specs.Resolved.{marks_in}
use Rattle.join_source.specs.Joins.{members_in, name_in}
use Rattle.dap_server.proofs.Answering as answering
use Rattle.dap_server.proofs.JoinedSending.{dds_refused_stop, for_refused}
use Rattle.dap_server.specs.Joins.{stored_together}
use Rattle.dap_server.specs.Results.{DdsAnswers}
use Rattle.dap_server.specs.inner.Opening.{WhereRefused}
use Rattle.dap_server.proofs.joined_texts.joined_dds_text.Goals as goal

pub returns-clause-text : goal.returns-clause-text
returns-clause-text c = λ files.
    answering.dds_short (stored_together (name_in c.args.joined.now) (members_in c.args.joined.now) files) c.args.query.now (dataset_view c.in_ok-dataset.dataset) c.in_ok-marked.marked.constraint (marks_in c.in_ok-marked.marked.marks)
    c.in_ok-text.text c.in_ok-dataset.ensures.joined c.in_ok-marked.ensures.spelled c.in_ok-marked.ensures.accepted
    c.in_ok-marked.ensures.marks c.in_ok-text.ensures.text c.in_ok-text.ensures.short

pub returns-in_err-marked-clause-refused : goal.returns-in_err-marked-clause-refused
returns-in_err-marked-clause-refused c =
    let stop : WhereRefused (λ why. (files : List (List ℕ)) → DdsAnswers (stored_together (name_in c.args.joined.now) (members_in c.args.joined.now) files) c.args.query.now (Err why)) c.in_err-marked.field-0.0 =
    dds_refused_stop (λ files. stored_together (name_in c.args.joined.now) (members_in c.args.joined.now) files) c.args.query.now (dataset_view c.in_ok-dataset.dataset) c.in_err-marked.field-0.0
    (λ files. c.in_ok-dataset.ensures.joined) c.in_err-marked.ensures.refused in
    search (rules, stop)

pub returns-in_err-text-clause-refused : goal.returns-in_err-text-clause-refused
returns-in_err-text-clause-refused c =
    let d = dataset_view c.in_ok-dataset.dataset in
    let m = marks_in c.in_ok-marked.marked.marks in
    let stop : WhereRefused (λ why. (files : List (List ℕ)) → DdsAnswers (stored_together (name_in c.args.joined.now) (members_in c.args.joined.now) files) c.args.query.now (Err why)) c.in_err-text.field-0.0 =
    for_refused (λ why (is, long) files. rw is (answering.dds_long (stored_together (name_in c.args.joined.now) (members_in c.args.joined.now) files) c.args.query.now d c.in_ok-marked.marked.constraint m
    (dds (constrained m d)) c.in_ok-dataset.ensures.joined c.in_ok-marked.ensures.spelled c.in_ok-marked.ensures.accepted
    c.in_ok-marked.ensures.marks refl long)) c.in_err-text.field-0.0 c.in_err-text.ensures.refused in
    search (rules, stop)
