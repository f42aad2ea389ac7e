use Rattle.std.proofs.Common.{rules, Err}
use Rattle.dap_http.specs.declared.kind.Kind.TheVariants.{Dds}
use Rattle.dap_server.proofs.Making as making
use Rattle.dap_server.specs.Results.{DdsAnswers, result_text}
use Rattle.dap_server.specs.inner.Opening.{WhereRefused}
use Rattle.dap_server.specs.inner.Preparing.{MayGiveAs}
use Rattle.dap_server.proofs.answers_by_kind.dds_answer.Goals as goal

pub returns-clause-text : goal.returns-clause-text
returns-clause-text g c =
    let (bytes, l, (ts, is)) = c.in_ok-opened.ensures.opened in
    making.follows_ok _ _ _ c.args.name.now bytes ts c.in_ok-opened.opened (λ s. DdsAnswers s c.args.query.now) (result_text Dds) c.dds_of.result l is c.dds_of.ensures.text

pub returns-clause-refused : goal.returns-clause-refused
returns-clause-refused g c =
    let (bytes, l, (ts, is)) = c.in_ok-opened.ensures.opened in
    making.follows_err _ _ _ c.args.name.now bytes ts c.in_ok-opened.opened (λ s. DdsAnswers s c.args.query.now) c.dds_of.result l is c.dds_of.ensures.refused

pub returns-in_err-opened-clause-refused : goal.returns-in_err-opened-clause-refused
returns-in_err-opened-clause-refused g c =
    let stop : WhereRefused (λ why. MayGiveAs (g.S.Shelf.files c.args.shelf.now) Dds c.args.name.now c.args.query.now (Err why)) c.in_err-opened.field-0.0 =
    making.stops _ c.args.name.now (λ s. DdsAnswers s c.args.query.now) c.in_err-opened.field-0.0 c.in_err-opened.ensures.refused in
    search (rules, stop)

pub returns-clause-why : goal.returns-clause-why
returns-clause-why g c = making.no_fault c.dds_of.result _ c.dds_of.ensures.no_fault

pub returns-clause-stays : goal.returns-clause-stays
returns-clause-stays g c = making.still_stays c.dds_of.result _ _ c.in_ok-opened.ensures.stays
