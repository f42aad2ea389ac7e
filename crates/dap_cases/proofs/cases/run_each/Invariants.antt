use Rattle.std.proofs.Common.{◌≡◌, map, take}
use Rattle.dap_cases.proofs.cases.run_each.Given as goal

abbrev pub invariant-loop-name : goal.invariant-loop-name
invariant-loop-name g l = map (λ outcome. outcome.name) l.outcomes ≡ take l.name-index l.names
