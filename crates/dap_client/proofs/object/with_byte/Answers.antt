use Rattle.std.proofs.Common.{sym, ◌∙◌, subst}
use Rattle.dap_client.specs.inner.Objects.{IsBehind}
use Rattle.dap_client.proofs.Objects.{trail_bad, trail_semicolon, trail_white}
use Rattle.dap_client.proofs.object.with_byte.Goals as goal
use Rattle.dap_client.proofs.object.with_byte.Goals.{then-byte-ne59-via-then-byte-ne59, then-byte-ne59-via-else-byte-ne59+then-semicolon}

pub returns-then-is_white : goal.returns-then-is_white
returns-then-is_white c bytes error o = trail_white bytes error c.args.semicolon c.args.byte o (sym c.is_white.ensures ∙ c.if-is_white.true)

pub returns-then-byte-ne59 : goal.returns-then-byte-ne59
returns-then-byte-ne59 c bytes error o = trail_bad bytes error c.args.semicolon c.args.byte o (sym c.is_white.ensures ∙ c.if-is_white.false)
    (elim c.then-byte-ne59.branch [
      | then-byte-ne59-via-then-byte-ne59 w ↦ λ is. absurd (w.if-byte-ne59.true is)
      | then-byte-ne59-via-else-byte-ne59+then-semicolon w ↦ λ is. w.if-semicolon.true
    ])

pub returns : goal.returns
returns c bytes error o = trail_semicolon bytes error c.args.byte (subst (IsBehind bytes error) c.if-semicolon.false o) c.if-byte-ne59.false
