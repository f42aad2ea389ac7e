use Rattle.std.proofs.Common.{ℕ, List, ◌++◌, ◌≤◌, length, take}
use Rattle.dap_client.specs.inner.DataLines.{IsLineFront}
use Rattle.dap_client.proofs.data_line.DataLine.read.Given as goal

abbrev pub invariant-loop-at : goal.invariant-loop-at
invariant-loop-at l = record {
  within : l.at ≤ length l.fn.piece;
  stands : (bytes : List ℕ) → IsLineFront l.fn.self bytes → IsLineFront l.line (bytes ++ take l.at l.fn.piece);
}
