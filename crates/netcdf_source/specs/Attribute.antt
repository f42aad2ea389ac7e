-- An attribute of a variable or of a file (netCDF classic format, attr).
use Rattle.std.specs.Prelude.{ℕ, List}
use Rattle.netcdf_source.specs.declared.external_type.ExternalType.{ExternalType}

-- its name, its type, and the bytes of its values without padding
pub record Attribute : Type 0 where
  pub name : List ℕ
  pub external_type : ExternalType
  pub values : List ℕ
