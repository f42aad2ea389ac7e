use Rattle.std.proofs.Common.{◌∙◌, sym}
use Rattle.std.proofs.lemmas.Result.{err_from_is_err_and}
use Rattle.dap_errors.specs.inner.Machine.{Start, Named}
use Rattle.dap_errors.proofs.Moves.{starts, moves, stops_bad, stops_end}
use Rattle.dap_errors.proofs.Names.{start_named, start_other}
use Rattle.dap_errors.proofs.fields.error_word.Goals as goal

pub returns-in_err-token-clause-stands : goal.returns-in_err-token-clause-stands
returns-in_err-token-clause-stands c =
    let p = err_from_is_err_and c.from_residual.result c.from_residual.ensures.1 in
    let (end, none) = c.in_err-token.ensures.token in
    rw (p.1, p.2, end) (stops_end c.args.text.now 0 Start (starts c.args.text.now) none tt)

pub returns-then-not-is_named-clause-stands : goal.returns-then-not-is_named-clause-stands
returns-then-not-is_named-clause-stands c =
    let (t, k, n) = c.in_ok-token.ensures.token in
    stops_bad c.args.text.now 0 c.in_ok-token.token.place c.in_ok-token.token.behind t Start (starts c.args.text.now) n tt
    (start_other t (sym (c.is_named.ensures t k n.token_at) ∙ c.if-not-is_named.true))

pub returns-clause-stands : goal.returns-clause-stands
returns-clause-stands c =
    let (t, k, n) = c.in_ok-token.ensures.token in
    moves c.args.text.now 0 c.in_ok-token.token.place c.in_ok-token.token.behind t Start Named (starts c.args.text.now) n
    (start_named t (sym (c.is_named.ensures t k n.token_at) ∙ c.if-not-is_named.false))
