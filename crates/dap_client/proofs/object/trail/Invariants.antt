use Rattle.std.proofs.Common.{ℕ, List, ◌++◌, ◌≤◌, ◌≡◌, length, take}
use Rattle.dap_client.specs.inner.Objects.{IsBehind}
use Rattle.dap_client.proofs.object.trail.Given as goal

abbrev pub invariant-loop-at : goal.invariant-loop-at
invariant-loop-at l = record {
  within : l.at ≤ length l.fn.piece;
  stands : (bytes : List ℕ) → length bytes ≡ l.fn.place → IsBehind bytes l.fn.object l.fn.semicolon → IsBehind (bytes ++ take l.at l.fn.piece) l.fn.object l.semicolon;
}
