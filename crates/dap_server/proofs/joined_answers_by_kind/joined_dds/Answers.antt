use Rattle.std.proofs.Common.{rules, Err}
use Rattle.dap_http.specs.declared.kind.Kind.TheVariants.{Dds}
use Rattle.dap_server.proofs.AskedBefore.{left_asked}
use Rattle.dap_server.proofs.JoinsGiven as given
use Rattle.dap_server.proofs.Making as making
use Rattle.dap_server.proofs.Refusals.{dds-no-line}
use Rattle.join_source.specs.Joins.{members_in, name_in}
use Rattle.dap_server.specs.Joins.{stored_together}
use Rattle.dap_server.specs.Prepared.{MayGiveWithin}
use Rattle.dap_server.specs.Results.{DdsAnswers, result_text}
use Rattle.dap_server.specs.inner.Opening.{WhereRefused}
use Rattle.dap_server.specs.inner.Preparing.{asked_as}
use Rattle.dap_server.proofs.joined_answers_by_kind.joined_dds.Goals as goal

pub returns-clause-text : goal.returns-clause-text
returns-clause-text g c =
    given.follows_ok _ _ _ c.args.name.now c.in_ok-joined.joined _ c.requires.form c.in_ok-joined.ensures.opened _ _ c.in_ok-joined.ensures.asked_lines (λ s. DdsAnswers s c.args.query.now) (result_text Dds) c.joined_dds_text.result c.joined_dds_text.ensures.text

pub returns-clause-refused : goal.returns-clause-refused
returns-clause-refused g c =
    given.follows_err _ _ _ c.args.name.now c.in_ok-joined.joined _ c.requires.form c.in_ok-joined.ensures.opened _ _ c.in_ok-joined.ensures.asked_lines (λ s. DdsAnswers s c.args.query.now) c.joined_dds_text.result c.joined_dds_text.ensures.refused

pub returns-in_err-joined-clause-refused : goal.returns-in_err-joined-clause-refused
returns-in_err-joined-clause-refused g c =
    let stop : WhereRefused (λ why. MayGiveWithin (g.S.Shelf.files c.args.shelf.now) (asked_as Dds c.args.name.now c.args.query.now) (g.S.Shelf.asked c.args.shelf.now) (g.S.Shelf.asked c.open_joined.new.shelf) (Err why)) c.in_err-joined.field-0.0 =
    given.stops_within _ c.args.name.now _ _ (λ s. DdsAnswers s c.args.query.now) c.in_err-joined.field-0.0 c.in_err-joined.ensures.refused in
    search (rules, stop)

pub returns-clause-why : goal.returns-clause-why
returns-clause-why g c = making.no_fault c.joined_dds_text.result _ c.joined_dds_text.ensures.no_fault

pub returns-clause-stays : goal.returns-clause-stays
returns-clause-stays g c = making.still_stays c.joined_dds_text.result _ _ c.in_ok-joined.ensures.stays

pub returns-clause-asked_before : goal.returns-clause-asked_before
returns-clause-asked_before g c =
    left_asked (g.S.Shelf.files c.args.shelf.now) c.args.name.now (λ s. DdsAnswers s c.args.query.now) (stored_together (name_in c.in_ok-joined.joined) (members_in c.in_ok-joined.joined)) c.joined_dds_text.result _ _
    (λ s cause. dds-no-line s c.args.query.now cause) c.joined_dds_text.ensures.refused
