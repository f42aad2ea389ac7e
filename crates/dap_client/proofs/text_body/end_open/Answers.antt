use Rattle.std.proofs.Common.{subst, sym, inr, arith}
use Rattle.dap_client.proofs.TextBodies.{das_cut}
use Rattle.dap_client.specs.Verdict.{das_form}
use Rattle.dap_client.specs.inner.TextBodies.{IsTextEnded}
use Rattle.dap_client.proofs.text_body.end_open.Goals as goal

pub returns-then-taken : goal.returns-then-taken
returns-then-taken c bytes long none empty o =
    subst (IsTextEnded das_form bytes) (sym c.cut.ensures) (das_cut bytes c.args.taken none empty (omega (arith, c.if-taken.true, long)) long)

pub returns : goal.returns
returns c bytes long none empty o = c.end_known.ensures bytes long none (inr (omega (arith, c.if-taken.false, long))) o
