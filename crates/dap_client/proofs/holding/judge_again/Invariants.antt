use Rattle.std.proofs.Common.{◌≡◌, ◌≤◌, ◌-◌, length, take}
use Rattle.dap_client.specs.inner.Holding.{IsAfter}
use Rattle.dap_client.proofs.holding.judge_again.Given as goal

abbrev pub invariant-loop-at : goal.invariant-loop-at
invariant-loop-at l = record {
  within : l.at ≤ length l.bytes;
  after : IsAfter l.reader (take l.at l.bytes);
  kind : l.reader.kind ≡ l.fn.kind;
}

abbrev pub decreases-loop-at : goal.decreases-loop-at
decreases-loop-at l = length l.bytes - l.at
