use Rattle.std.proofs.Common.{rules, Err, List, ℕ}
use Rattle.dap_http.specs.declared.kind.Kind.TheVariants.{Das}
use Rattle.dap_server.proofs.JoinsGiven as given
use Rattle.dap_server.specs.Prepared.{MayGiveWithin}
use Rattle.dap_server.specs.inner.Opening.{WhereRefused}
use Rattle.dap_server.specs.inner.Preparing.{asked_as}
use Rattle.dap_server.proofs.joined_answers_by_kind.joined_das.Goals as goal

pub returns-clause-text : goal.returns-clause-text
returns-clause-text g c = λ query.
    given.das_joined _ _ _ c.args.name.now c.in_ok-joined.joined _ c.requires.form c.in_ok-joined.ensures.opened _ _ c.in_ok-joined.ensures.asked_lines query c.in_ok-joined_das_text.field-0 c.in_ok-joined_das_text.ensures

pub returns-in_err-joined-clause-refused : goal.returns-in_err-joined-clause-refused
returns-in_err-joined-clause-refused g c =
    let stop : WhereRefused (λ why. (query : List ℕ) → MayGiveWithin (g.S.Shelf.files c.args.shelf.now) (asked_as Das c.args.name.now query) (g.S.Shelf.asked c.args.shelf.now) (g.S.Shelf.asked c.open_joined.new.shelf) (Err why)) c.in_err-joined.field-0.0 =
    given.das_stops_within _ c.args.name.now _ _ c.in_err-joined.field-0.0 c.in_err-joined.ensures.refused in
    search (rules, stop)
