use Rattle.std.proofs.Common.{◌≡◌, ℕ, get_or, None, vec_len}
use Rattle.netcdf_source.proofs.coordinates.no_coordinates.Given as goal

abbrev pub invariant-loop : goal.invariant-loop
invariant-loop l = (vec_len l.table ≡ l.counter) × ((i : ℕ) → get_or l.table.items i None ≡ None)
