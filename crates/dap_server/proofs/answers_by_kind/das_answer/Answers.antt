use Rattle.std.proofs.Common.{rules, Err, List, ℕ}
use Rattle.dap_http.specs.declared.kind.Kind.TheVariants.{Das}
use Rattle.dap_server.proofs.Making as making
use Rattle.dap_server.specs.inner.Opening.{WhereRefused}
use Rattle.dap_server.specs.inner.Preparing.{MayGiveAs}
use Rattle.dap_server.proofs.answers_by_kind.das_answer.Goals as goal

pub returns-clause-text : goal.returns-clause-text
returns-clause-text g c = λ query.
    let (bytes, l, (ts, is)) = c.in_ok-opened.ensures.opened in
    making.das_follows _ _ _ c.args.name.now bytes ts c.in_ok-opened.opened c.in_ok-das_of.field-0 l is c.in_ok-das_of.ensures

pub returns-in_err-opened-clause-refused : goal.returns-in_err-opened-clause-refused
returns-in_err-opened-clause-refused g c =
    let stop : WhereRefused (λ why. (query : List ℕ) → MayGiveAs (g.S.Shelf.files c.args.shelf.now) Das c.args.name.now query (Err why)) c.in_err-opened.field-0.0 =
    making.das_stops _ c.args.name.now c.in_err-opened.field-0.0 c.in_err-opened.ensures.refused in
    search (rules, stop)
