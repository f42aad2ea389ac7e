use Rattle.std.proofs.Common.{◌++◌, Bool, Result, sym, subst, arith}
use Rattle.dap_client.specs.After.{form_in}
use Rattle.dap_client.specs.inner.Holding.{IsGoing}
use Rattle.dap_client.specs.declared.body_outcome.BodyOutcome.{BodyOutcome}
use Rattle.dap_client.proofs.HeldBodies.{going-told, no-fault}
use Rattle.dap_client.proofs.holding.is_going.Goals as goal

pub finish-requires : goal.finish-requires
finish-requires c = let (bytes, (put, stands)) = c.requires in (bytes, put, stands)

pub goes_on-requires : goal.goes_on-requires
goes_on-requires c =
    let (bytes, (put, stands)) = c.requires in
    let (text, gained, finished) = c.finish.ensures.finished bytes put stands in
    no-fault (form_in c.args.reader) bytes (put ++ text) c.finish.result (λ e. omega (arith, c.finish.ensures.fault e)) finished

pub returns : goal.returns
returns c bytes (put, stands) =
    let (text, gained, finished) = c.finish.ensures.finished bytes put stands in
    subst (λ (r : Result Bool BodyOutcome). IsGoing (form_in c.args.reader) bytes r) (sym c.goes_on.ensures)
    (going-told (form_in c.args.reader) bytes (put ++ text) c.finish.result (λ e. omega (arith, c.finish.ensures.fault e)) finished)
