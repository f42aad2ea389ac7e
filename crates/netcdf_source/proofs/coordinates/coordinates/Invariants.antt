use Rattle.std.proofs.Common.{◌≡◌, ℕ, get_or, None, vec_len, length, drop}
use Rattle.std.specs.Option.{option_or}
use Rattle.std.specs.List.{position_from}
use Rattle.netcdf_source.specs.Mapping.{is_coordinate_of, coordinate_at}
use Rattle.netcdf_source.proofs.coordinates.coordinates.Given as goal

abbrev pub invariant-loop-i : goal.invariant-loop-i
invariant-loop-i l = (vec_len l.table ≡ length l.contents.dimensions)
    × ((k : ℕ) → option_or (get_or l.table.items k None) (position_from (is_coordinate_of l.contents k) l.i (drop l.i l.contents.variables)) ≡ coordinate_at l.contents k)
