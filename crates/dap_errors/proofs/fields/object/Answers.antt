use Rattle.std.proofs.Common.{[]}
use Rattle.std.proofs.lemmas.Result.{err_from_is_err_and}
use Rattle.dap_errors.specs.inner.Machine.{Named, Fields}
use Rattle.dap_errors.proofs.Moves.{named_wants}
use Rattle.dap_errors.proofs.fields.object.Goals as goal

pub returns-in_err-at-2-clause-stands : goal.returns-in_err-at-2-clause-stands
returns-in_err-at-2-clause-stands c =
    let p = err_from_is_err_and c.from_residual-in_err-at-2.result c.from_residual-in_err-at-2.ensures.1 in
    rw (p.1, p.2) (c.in_err-at-2.ensures.stands Named (Fields []) named_wants c.in_ok-at.ensures.stands)

pub returns-clause-stands : goal.returns-clause-stands
returns-clause-stands c = c.fields.ensures.stands (c.in_ok-at-2.ensures.stands Named (Fields []) named_wants c.in_ok-at.ensures.stands)
