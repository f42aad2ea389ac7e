use Rattle.std.proofs.Common.{◌≡◌, drop, leb}
use Rattle.std.specs.List.{list_all}
use Rattle.netcdf_source.specs.Mapping.{size_at}
use Rattle.netcdf_source.proofs.sizes.are_small.Given as goal

abbrev pub invariant-loop-id : goal.invariant-loop-id
invariant-loop-id l = list_all (λ i. leb (size_at l.contents i) 2147483647) (drop l.id-index l.ids) ≡ list_all (λ i. leb (size_at l.contents i) 2147483647) l.ids
