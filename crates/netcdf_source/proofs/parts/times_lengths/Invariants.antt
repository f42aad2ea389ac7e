use Rattle.std.proofs.Common.{◌≡◌, ◌+◌, ◌*◌, ◌^◌, ◌≤◌, min, drop}
use Rattle.dap_types.specs.Model.{product}
use Rattle.netcdf_source.specs.Parts.{lengths}
use Rattle.netcdf_source.proofs.parts.times_lengths.Given as goal

abbrev pub invariant-loop-id : goal.invariant-loop-id
invariant-loop-id l = (l.total ≤ 2 ^ 62 + 1) × (min (l.total * product (lengths l.dimensions (drop l.id-index l.ids))) (2 ^ 62 + 1) ≡ min (l.count * product (lengths l.dimensions l.ids)) (2 ^ 62 + 1))
