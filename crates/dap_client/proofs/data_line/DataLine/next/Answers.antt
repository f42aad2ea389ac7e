use Rattle.std.proofs.Common.{arith, sym, ◌∙◌}
use Rattle.dap_client.proofs.DataLines.{differs, line_ends}
use Rattle.dap_client.proofs.data_line.DataLine.next.Goals as goal
use Rattle.dap_client.proofs.data_line.DataLine.next.Goals.{else-self-eq0-via-then-self-eq0+else-is_white, else-self-eq0-via-else-self-eq0, else-self-ge5-via-then-self-ge5+else-byte-eq10, else-self-ge5-via-else-self-ge5, else-self-lt6-via-then-self-lt6+else-byte-self, else-self-lt6-via-else-self-lt6}

pub returns-then-byte-eq10 : goal.returns-then-byte-eq10
returns-then-byte-eq10 c bytes o = line_ends bytes c.args.self.come c.args.byte o c.if-self-ge5.true c.if-byte-eq10.true

pub returns : goal.returns
returns c bytes o = differs bytes c.args.self.come c.args.byte o
    (elim c.else-self-eq0.branch [
      | else-self-eq0-via-then-self-eq0+else-is_white w ↦ λ none. sym w.is_white.ensures ∙ w.if-is_white.false
      | else-self-eq0-via-else-self-eq0 w ↦ λ none. absurd (w.if-self-eq0.false none)
    ])
    (elim c.else-self-ge5.branch [
      | else-self-ge5-via-then-self-ge5+else-byte-eq10 w ↦ λ long is. w.if-byte-eq10.false is
      | else-self-ge5-via-else-self-ge5 w ↦ λ long is. absurd (omega (arith, long, w.if-self-ge5.false))
    ])
    (elim c.else-self-lt6.branch [
      | else-self-lt6-via-then-self-lt6+else-byte-self w ↦ λ lt is. w.if-byte-self.false is
      | else-self-lt6-via-else-self-lt6 w ↦ λ lt is. absurd (omega (arith, lt, w.if-self-lt6.false))
    ])
