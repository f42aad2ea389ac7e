use Rattle.std.proofs.Common.{rules, Err}
use Rattle.dap_http.specs.declared.kind.Kind.TheVariants.{Dods}
use Rattle.dap_server.proofs.DataGiven as given
use Rattle.dap_server.proofs.Making as making
use Rattle.dap_server.specs.Results.{DodsAnswers}
use Rattle.dap_server.specs.inner.Opening.{WhereRefused}
use Rattle.dap_server.specs.inner.Preparing.{MayGiveAs}
use Rattle.dap_server.proofs.answers_by_kind.dods_answer.Goals as goal

pub returns-clause-body : goal.returns-clause-body
returns-clause-body g c =
    let (bytes, l, (ts, is)) = c.in_ok-opened.ensures.opened in
    given.over _ _ _ c.args.name.now c.args.query.now bytes ts c.in_ok-opened.opened c.in_ok-body.body (λ file tells. g.met.S.Shelf.content_is_bytes c.open_named.new.shelf c.in_ok-opened.file file tells) l is
    c.in_ok-body.ensures.text

pub returns-clause-sends : goal.returns-clause-sends
returns-clause-sends g c =
    let (bytes, l, (ts, is)) = c.in_ok-opened.ensures.opened in
    given.sends _ _ _ c.args.name.now c.args.query.now bytes ts c.in_ok-opened.opened c.in_ok-body.body l is c.in_ok-body.ensures.sends

pub returns-clause-of_saved : goal.returns-clause-of_saved
returns-clause-of_saved g c =
    let (bytes, l, (ts, is)) = c.in_ok-opened.ensures.opened in
    given.of_saved c.args.name.now bytes ts c.in_ok-opened.opened c.in_ok-body.body is c.in_ok-body.ensures.of_saved

pub returns-clause-accepted : goal.returns-clause-accepted
returns-clause-accepted g c =
    let (bytes, l, (ts, is)) = c.in_ok-opened.ensures.opened in
    given.accepted _ _ _ c.args.name.now c.args.query.now bytes ts c.in_ok-opened.opened l is c.in_ok-body.ensures.accepted

pub returns-clause-of_file : goal.returns-clause-of_file
returns-clause-of_file g c =
    let (bytes, l, (ts, is)) = c.in_ok-opened.ensures.opened in
    given.of_file c.args.name.now bytes ts c.in_ok-opened.opened c.in_ok-body.body is c.in_ok-body.ensures.of_file

pub returns-clause-tells : goal.returns-clause-tells
returns-clause-tells g c =
    let (bytes, l, (ts, is)) = c.in_ok-opened.ensures.opened in
    given.tells_some _ _ _ _ bytes l

pub returns-clause-alone : goal.returns-clause-alone
returns-clause-alone g c =
    let (bytes, l, (ts, is)) = c.in_ok-opened.ensures.opened in
    given.alone c.args.name.now bytes ts c.in_ok-opened.opened c.in_ok-body.body is c.in_ok-body.ensures.alone

pub returns-clause-fits : goal.returns-clause-fits
returns-clause-fits g c =
    let (bytes, l, (ts, is)) = c.in_ok-opened.ensures.opened in
    given.fits _ _ _ c.args.name.now bytes ts c.in_ok-opened.opened c.in_ok-body.body l is c.in_ok-body.ensures.fits

pub returns-clause-cost : goal.returns-clause-cost
returns-clause-cost g c =
    let (bytes, l, (ts, is)) = c.in_ok-opened.ensures.opened in
    given.cost _ _ _ c.args.name.now c.args.query.now bytes ts c.in_ok-opened.opened c.in_ok-body.body l is c.in_ok-body.ensures.cost

pub returns-clause-cost_at : goal.returns-clause-cost_at
returns-clause-cost_at g c =
    let (bytes, l, (ts, is)) = c.in_ok-opened.ensures.opened in
    given.cost_at _ _ _ c.args.name.now c.args.query.now bytes ts c.in_ok-opened.opened c.in_ok-body.body (λ file tells. g.met.S.Shelf.content_is_bytes c.open_named.new.shelf c.in_ok-opened.file file tells) l is
    c.in_ok-body.ensures.cost_at

pub returns-in_err-opened-clause-refused : goal.returns-in_err-opened-clause-refused
returns-in_err-opened-clause-refused g c =
    let stop : WhereRefused (λ why. MayGiveAs (g.S.Shelf.files c.args.shelf.now) Dods c.args.name.now c.args.query.now (Err why)) c.in_err-opened.field-0.0 =
    making.stops _ c.args.name.now (λ s. DodsAnswers s c.args.query.now) c.in_err-opened.field-0.0 c.in_err-opened.ensures.refused in
    search (rules, stop)

pub returns-in_err-body-clause-refused : goal.returns-in_err-body-clause-refused
returns-in_err-body-clause-refused g c =
    let (bytes, l, (ts, is)) = c.in_ok-opened.ensures.opened in
    let stop : WhereRefused (λ why. MayGiveAs (g.S.Shelf.files c.args.shelf.now) Dods c.args.name.now c.args.query.now (Err why)) c.in_err-body.field-0.0 =
    making.follows_stop _ _ _ c.args.name.now bytes ts c.in_ok-opened.opened (λ s. DodsAnswers s c.args.query.now) c.in_err-body.field-0.0 l is c.in_err-body.ensures.refused in
    search (rules, stop)
