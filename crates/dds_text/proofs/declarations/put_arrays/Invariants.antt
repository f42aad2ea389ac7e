use Rattle.std.proofs.Common.{◌≡◌, ◌++◌, take}
use Rattle.std.specs.List.{flat_map}
use Rattle.dap_model.specs.Dds.{array_text}
use Rattle.dds_text.proofs.declarations.put_arrays.Given as goal

abbrev pub invariant-loop-array : goal.invariant-loop-array
invariant-loop-array l = l.out.items ≡ l.fn.out.items ++ flat_map (array_text l.depth) (take l.array-index l.arrays)
