-- A table of the coordinate variable of each dimension.
use Rattle.std.specs.Prelude.{◌≡◌, ℕ, List, Option, None, get_or}
use Rattle.netcdf_source.specs.Mapping.{coordinate_at}
use Rattle.netcdf_source.specs.declared.header.Contents.{Contents}

unfoldable pub AreCoordinates : Contents → List (Option ℕ) → Type 0
AreCoordinates c table = (i : ℕ) → get_or table i None ≡ coordinate_at c i
