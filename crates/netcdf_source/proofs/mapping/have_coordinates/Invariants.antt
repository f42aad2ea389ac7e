use Rattle.std.proofs.Common.{◌≡◌, drop}
use Rattle.std.specs.Prelude.{is_some}
use Rattle.std.specs.List.{list_all}
use Rattle.netcdf_source.specs.Mapping.{coordinate_at}
use Rattle.netcdf_source.proofs.mapping.have_coordinates.Given as goal

abbrev pub invariant-loop-id : goal.invariant-loop-id
invariant-loop-id l = list_all (λ i. is_some (coordinate_at l.contents i)) (drop l.id-index l.ids) ≡ list_all (λ i. is_some (coordinate_at l.contents i)) l.ids
