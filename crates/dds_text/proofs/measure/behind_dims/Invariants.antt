use Rattle.std.proofs.Common.{◌≡◌, ◌+◌, length, drop}
use Rattle.std.specs.List.{flat_map}
use Rattle.dap_model.specs.Dds.{dim_text}
use Rattle.dds_text.proofs.measure.behind_dims.Given as goal

-- what is left, with what is spent on those so far
abbrev pub invariant-loop-dim : goal.invariant-loop-dim
invariant-loop-dim l = l.fn.left + length (flat_map dim_text (drop l.dim-index l.dims)) ≡ l.left + length (flat_map dim_text l.dims)
