use Rattle.std.proofs.Common.{◌≡◌, take}
use Rattle.std.specs.List.{flat_map}
use Rattle.dap_cases.specs.Reports.{line_of}
use Rattle.dap_cases.proofs.lines.report.Given as goal

abbrev pub invariant-loop-outcome : goal.invariant-loop-outcome
invariant-loop-outcome l = l.text.items ≡ flat_map line_of (take l.outcome-index l.outcomes)
