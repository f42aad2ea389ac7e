-- What the header of the generated file says.
use Rattle.std.specs.Prelude.{ℕ, List, [], ◌∷◌, codes}
use Rattle.netcdf_source.specs.declared.external_type.ExternalType.TheVariants.{Short, Int}
use Rattle.netcdf_source.specs.declared.external_type.ExternalType.{ExternalType}
use Rattle.netcdf_source.specs.declared.header.Contents.{Contents}
use Rattle.netcdf_source.specs.declared.header.Dimension.{Dimension}
use Rattle.netcdf_source.specs.declared.header.Variable.{Variable}

abbrev pub dimensions : List Dimension
dimensions = record { name = codes "t"; length = 0 } ∷ record { name = codes "y"; length = 32 } ∷ record { name = codes "x"; length = 32 } ∷ []

abbrev pub over_all : List ℕ → ExternalType → ℕ → Variable
over_all name external_type begin = record { name = name; dimensions = 0 ∷ 1 ∷ 2 ∷ []; attributes = []; external_type = external_type; begin = begin }

abbrev pub soak_contents : ℕ → Contents
soak_contents records = record {
  records = records;
  dimensions = dimensions;
  attributes = [];
  variables = over_all (codes "s") Short 156 ∷ over_all (codes "i") Int 2204 ∷ [];
}
