use Rattle.std.proofs.Common.{◌≡◌, ◌≤◌, length, take}
use Rattle.dap_cases.proofs.differences.first_difference.Given as goal

abbrev pub invariant-loop-place : goal.invariant-loop-place
invariant-loop-place l =
    record {
      same : take l.place l.found ≡ take l.place l.wanted;
      within : l.place ≤ length l.wanted;
    }
