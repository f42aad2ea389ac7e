-- Whether two headers have the same dimensions and variables, as a test.
use Rattle.std.specs.Prelude.{ℕ, Bool, true, false, ◌&&◌, List, [], ◌∷◌, ◌==◌}
use Rattle.std.specs.Str.{bytes_eq}
use Rattle.netcdf_source.specs.declared.external_type.ExternalType.{ExternalType}
use Rattle.netcdf_source.specs.declared.external_type.ExternalType.TheVariants.{Byte, Char, Short, Int, Float, Double, UByte, UShort, UInt, Int64, UInt64}
use Rattle.netcdf_source.specs.declared.header.Contents.{Contents}
use Rattle.netcdf_source.specs.declared.header.Dimension.{Dimension}
use Rattle.netcdf_source.specs.declared.header.Variable.{Variable}

-- lists of one length, with the same item at each place
unfoldable pub all_same : {X : Type 0} → (X → X → Bool) → List X → List X → Bool
all_same same [] [] = true
all_same same [] (y ∷ ys) = false
all_same same (x ∷ xs) [] = false
all_same same (x ∷ xs) (y ∷ ys) = same x y && all_same same xs ys

abbrev pub type_number : ExternalType → ℕ
type_number Byte = 1
type_number Char = 2
type_number Short = 3
type_number Int = 4
type_number Float = 5
type_number Double = 6
type_number UByte = 7
type_number UShort = 8
type_number UInt = 9
type_number Int64 = 10
type_number UInt64 = 11

unfoldable pub same_dimension : Dimension → Dimension → Bool
same_dimension d e = d.length == e.length && bytes_eq d.name e.name

unfoldable pub same_variable : Variable → Variable → Bool
same_variable v w = type_number v.external_type == type_number w.external_type && bytes_eq v.dimensions w.dimensions && bytes_eq v.name w.name

unfoldable pub have_same_shape : Contents → Contents → Bool
have_same_shape c d = all_same same_dimension c.dimensions d.dimensions && all_same same_variable c.variables d.variables
