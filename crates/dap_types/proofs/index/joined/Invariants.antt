use Rattle.std.proofs.Common.{◌≡◌, take}
use Rattle.dap_types.proofs.index.joined.Given as goal

abbrev pub invariant-loop-id : goal.invariant-loop-id
invariant-loop-id l = l.path.items ≡ take l.id-index l.whole
