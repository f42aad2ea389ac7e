use Rattle.std.proofs.Common.{◌+◌, ◌++◌, refl, ap, sym, subst, inl, inr, arith, length-append}
use Rattle.das_text.specs.Reading.{IsTrailing}
use Rattle.das_text.specs.View.{attributes_view}
use Rattle.dap_client.proofs.DasBodies.{das_more, das_stray}
use Rattle.dap_client.specs.inner.DasBodies.{IsDasBody}
use Rattle.dap_client.proofs.das_body.read_white.Goals as goal

pub returns-in-None-clause-body : goal.returns-in-None-clause-body
returns-in-None-clause-body c bytes is long o = das_more bytes c.args.piece.now (attributes_view c.args.attributes) long o (rw c.in-None.is at c.first_other.ensures)

pub returns-in-Some-clause-body : goal.returns-in-Some-clause-body
returns-in-Some-clause-body c bytes is long o =
    let found = rw c.in-Some.is at c.first_other.ensures in
    subst (IsDasBody (bytes ++ c.args.piece.now)) (sym c.wrong.ensures)
    (omega (arith, long, length-append bytes c.args.piece.now), λ more. inr (inl (subst (IsTrailing ((bytes ++ c.args.piece.now) ++ more)) (ap (λ n. n + c.in-Some.at) is) (das_stray bytes c.args.piece.now (attributes_view c.args.attributes) c.in-Some.at long o found.within found.white found.other more), refl)))
