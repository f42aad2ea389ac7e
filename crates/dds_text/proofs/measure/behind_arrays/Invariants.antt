use Rattle.std.proofs.Common.{◌≡◌, ◌+◌, length, drop}
use Rattle.std.specs.List.{flat_map}
use Rattle.dap_model.specs.Dds.{array_text}
use Rattle.dds_text.proofs.measure.behind_arrays.Given as goal

-- what is left, with what is spent on those so far
abbrev pub invariant-loop-array : goal.invariant-loop-array
invariant-loop-array l = l.fn.left + length (flat_map (array_text l.depth) (drop l.array-index l.arrays)) ≡ l.left + length (flat_map (array_text l.depth) l.arrays)
