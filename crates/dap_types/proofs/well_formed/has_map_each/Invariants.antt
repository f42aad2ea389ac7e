use Rattle.std.proofs.Common.{◌≡◌, drop, map}
use Rattle.dap_types.specs.Judged.{are_mapped}
use Rattle.dap_types.proofs.well_formed.has_map_each.Given as goal

abbrev pub invariant-loop-k : goal.invariant-loop-k
invariant-loop-k l = are_mapped (drop l.k l.maps) (map (λ dim. dim.size) (drop l.k l.dims)) ≡ are_mapped l.maps (map (λ dim. dim.size) l.dims)
