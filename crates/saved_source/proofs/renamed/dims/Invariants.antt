use Rattle.std.proofs.Common.{◌≡◌, take}
use Rattle.saved_source.proofs.renamed.dims.Given as goal

abbrev pub invariant-loop-dim : goal.invariant-loop-dim
invariant-loop-dim l = l.again ≡ take l.dim-index l.dims
