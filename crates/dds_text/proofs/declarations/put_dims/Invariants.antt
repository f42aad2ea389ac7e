use Rattle.std.proofs.Common.{◌≡◌, ◌++◌, take}
use Rattle.std.specs.List.{flat_map}
use Rattle.dap_model.specs.Dds.{dim_text}
use Rattle.dds_text.proofs.declarations.put_dims.Given as goal

abbrev pub invariant-loop-dim : goal.invariant-loop-dim
invariant-loop-dim l = l.out.items ≡ l.fn.out.items ++ flat_map dim_text (take l.dim-index l.dims)
