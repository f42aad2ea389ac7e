-- Values as a file keeps them: numbers with the high byte first (netCDF classic format, external types).
use Rattle.std.specs.Prelude.{ℕ, List, pos}
use Rattle.std.specs.Int.{from_be_bytes, cast_signed, w8, w16, w32, w64}
use Rattle.dap_types.specs.declared.declarations.BaseType.{BaseType}
use Rattle.dap_types.specs.declared.declarations.BaseType.TheVariants.{Byte, Int16, UInt16, Int32, UInt32, Float32, Float64, Text, Url}
use Rattle.dap_types.specs.declared.values.Value.{Value}
use Rattle.dap_types.specs.declared.values.Value.TheVariants as values

-- the value of a type that stands in some bytes: the high byte first, signed numbers in two's
-- complement, floats as their bits, a text as it is
abbrev pub value_of : BaseType → List ℕ → Value
value_of Byte bytes = values.Whole (pos (from_be_bytes w8 bytes))
value_of Int16 bytes = values.Whole (cast_signed w16 (from_be_bytes w16 bytes))
value_of UInt16 bytes = values.Whole (pos (from_be_bytes w16 bytes))
value_of Int32 bytes = values.Whole (cast_signed w32 (from_be_bytes w32 bytes))
value_of UInt32 bytes = values.Whole (pos (from_be_bytes w32 bytes))
value_of Float32 bytes = values.Bits32 (from_be_bytes w32 bytes)
value_of Float64 bytes = values.Bits64 (from_be_bytes w64 bytes)
value_of Text bytes = values.Text bytes
value_of Url bytes = values.Text bytes
