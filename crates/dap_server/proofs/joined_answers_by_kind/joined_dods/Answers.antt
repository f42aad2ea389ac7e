use Rattle.std.proofs.Common.{rules, Err, []}
use Rattle.dap_http.specs.declared.kind.Kind.TheVariants.{Dods}
use Rattle.join_source.specs.Joins.{members_in, name_in}
use Rattle.dap_server.proofs.AskedBefore.{no_line}
use Rattle.dap_server.proofs.JoinedSending.{for_refused}
use Rattle.dap_server.proofs.JoinsGiven as given
use Rattle.dap_server.proofs.Refusals.{dods-no-line}
use Rattle.dap_server.specs.Costs.{IsAskedBefore}
use Rattle.dap_server.specs.Joins.{stored_together}
use Rattle.dap_server.specs.Prepared.{MayGiveWithin}
use Rattle.dap_server.specs.Results.{DodsAnswers}
use Rattle.dap_server.specs.inner.Opening.{WhereRefused}
use Rattle.dap_server.specs.inner.Preparing.{asked_as}
use Rattle.dap_server.proofs.joined_answers_by_kind.joined_dods.Goals as goal

pub returns-clause-body : goal.returns-clause-body
returns-clause-body g c =
    given.body_joined _ _ _ c.args.name.now c.in_ok-joined.joined _ c.requires.form c.in_ok-joined.ensures.opened c.args.query.now c.in_ok-body.body
    (λ file bytes tells. g.met.S.Shelf.content_is_bytes c.open_joined.new.shelf file bytes tells)
    c.in_ok-body.ensures.text c.in_ok-body.ensures.accepted c.in_ok-body.ensures.fits c.in_ok-body.ensures.cost c.in_ok-body.ensures.cost_at

pub returns-in_err-joined-clause-refused : goal.returns-in_err-joined-clause-refused
returns-in_err-joined-clause-refused g c =
    let stop : WhereRefused (λ why. MayGiveWithin (g.S.Shelf.files c.args.shelf.now) (asked_as Dods c.args.name.now c.args.query.now) (g.S.Shelf.asked c.args.shelf.now) (g.S.Shelf.asked c.open_joined.new.shelf) (Err why)) c.in_err-joined.field-0.0 =
    given.stops_within _ c.args.name.now _ _ (λ s. DodsAnswers s c.args.query.now) c.in_err-joined.field-0.0 c.in_err-joined.ensures.refused in
    search (rules, stop)

pub returns-in_err-body-clause-refused : goal.returns-in_err-body-clause-refused
returns-in_err-body-clause-refused g c =
    let stop : WhereRefused (λ why. MayGiveWithin (g.S.Shelf.files c.args.shelf.now) (asked_as Dods c.args.name.now c.args.query.now) (g.S.Shelf.asked c.args.shelf.now) (g.S.Shelf.asked c.open_joined.new.shelf) (Err why)) c.in_err-body.field-0.0 =
    given.follows_stop _ _ _ c.args.name.now c.in_ok-joined.joined _ c.requires.form c.in_ok-joined.ensures.opened _ _ c.in_ok-joined.ensures.asked_lines (λ s. DodsAnswers s c.args.query.now) c.in_err-body.field-0.0 c.in_err-body.ensures.refused in
    search (rules, stop)

pub returns-in_err-body-clause-asked_before : goal.returns-in_err-body-clause-asked_before
returns-in_err-body-clause-asked_before g c =
    let stop : WhereRefused (λ why. IsAskedBefore (g.S.Shelf.files c.args.shelf.now) c.args.name.now why (g.S.Shelf.asked c.args.shelf.now) (g.S.Shelf.asked c.open_joined.new.shelf)) c.in_err-body.field-0.0 =
    for_refused (λ why is. no_line (g.S.Shelf.files c.args.shelf.now) c.args.name.now why _ _ (dods-no-line (stored_together (name_in c.in_ok-joined.joined) (members_in c.in_ok-joined.joined) []) c.args.query.now why (is []))) c.in_err-body.field-0.0 c.in_err-body.ensures.refused in
    search (rules, stop)

pub returns-clause-of_list : goal.returns-clause-of_list
returns-clause-of_list g c =
    given.dods_joined _ _ _ c.args.name.now c.in_ok-joined.joined _ c.requires.form c.in_ok-joined.ensures.opened _ _ c.in_ok-joined.ensures.asked_lines c.args.query.now c.in_ok-body.ensures.accepted
