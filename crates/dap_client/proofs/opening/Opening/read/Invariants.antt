use Rattle.std.proofs.Common.{ℕ, List, ◌++◌, ◌≤◌, length, take}
use Rattle.dap_client.specs.inner.Openings.{IsOpening}
use Rattle.dap_client.proofs.opening.Opening.read.Given as goal

abbrev pub invariant-loop-byte : goal.invariant-loop-byte
invariant-loop-byte l = record {
  within : l.byte-index ≤ length l.fn.piece;
  stands : (bytes : List ℕ) → IsOpening l.fn.self bytes → IsOpening l.opening (bytes ++ take l.byte-index l.fn.piece);
}
