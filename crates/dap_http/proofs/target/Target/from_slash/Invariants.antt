use Rattle.std.proofs.Common.{◌≡◌, length}
use Rattle.dap_http.specs.Targets.{from_slash}
use Rattle.dap_http.proofs.target.Target.from_slash.Given as goal

abbrev pub invariant-loop-left : goal.invariant-loop-left
invariant-loop-left l = from_slash l.left ≡ from_slash l.bytes

abbrev pub decreases-loop-left : goal.decreases-loop-left
decreases-loop-left l = length l.left
