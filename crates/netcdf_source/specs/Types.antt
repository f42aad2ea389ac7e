-- The types of netCDF values (netCDF classic format, nc_type).
use Rattle.std.specs.Prelude.{ℕ, ◌||◌, Option, Some, None, ◌==◌, nat_le, if◌then◌else◌}
use Rattle.netcdf_source.specs.Versions.{has_more_types}
use Rattle.netcdf_source.specs.declared.external_type.ExternalType.{ExternalType}
use Rattle.netcdf_source.specs.declared.external_type.ExternalType.TheVariants.{Byte, Char, Short, Int, Float, Double, UByte, UShort, UInt, Int64, UInt64}
use Rattle.netcdf_source.specs.declared.version.Version.{Version}

-- the bytes of one value
abbrev pub size_of : ExternalType → ℕ
size_of Byte = 1
size_of Char = 1
size_of Short = 2
size_of Int = 4
size_of Float = 4
size_of Double = 8
size_of UByte = 1
size_of UShort = 2
size_of UInt = 4
size_of Int64 = 8
size_of UInt64 = 8

-- the type of a number
abbrev pub type_numbered : ℕ → Option ExternalType
type_numbered n =
    if n == 1 then Some Byte
    else if n == 2 then Some Char
    else if n == 3 then Some Short
    else if n == 4 then Some Int
    else if n == 5 then Some Float
    else if n == 6 then Some Double
    else if n == 7 then Some UByte
    else if n == 8 then Some UShort
    else if n == 9 then Some UInt
    else if n == 10 then Some Int64
    else if n == 11 then Some UInt64
    else None

-- the type of a number in a version of the format
abbrev pub type_of : Version → ℕ → Option ExternalType
type_of version n = if has_more_types version || nat_le n 6 then type_numbered n else None
