-- What a field is as a cell of a column: whole numbers in decimal digits, the bits of floats in
-- hexadecimal ones, and texts (this project's, over the fields of RFC 4180).
use Rattle.std.specs.Prelude.{ℕ, ◌^◌, Bool, true, ◌&&◌, ℤ, pos, neg_ℤ, List, [], ◌∷◌, ◌==◌, length, take, drop, codes, int_le, int_lt, if◌then◌else◌}
use Rattle.std.specs.Char.{is_ascii_digit, is_ascii_hexdigit}
use Rattle.std.specs.List.{list_all}
use Rattle.std.specs.Str.{bytes_eq}
use Rattle.std.specs.Str.Parse.{digits_value, signed_digits_value, without_leading_sign}
use Rattle.dap_types.specs.declared.declarations.BaseType.{BaseType}
use Rattle.dap_types.specs.declared.declarations.BaseType.TheVariants.{Byte, Int16, UInt16, Int32, UInt32, Float32, Float64, Text, Url}
use Rattle.dap_types.specs.declared.values.Value.{Value}
use Rattle.dap_types.specs.declared.values.Value.TheVariants as values
use Rattle.viable.specs.Characters.{byte}
use Rattle.viable.specs.Runs.{is_run}

-- without the spaces in front, and without those behind
unfoldable pub without_front_spaces : List ℕ → List ℕ
without_front_spaces [] = []
without_front_spaces (b ∷ bytes) = if b == byte " " then without_front_spaces bytes else b ∷ bytes

unfoldable pub without_end_spaces : List ℕ → List ℕ
without_end_spaces [] = []
without_end_spaces (b ∷ bytes) = if b == byte " " && length (without_end_spaces bytes) == 0 then [] else b ∷ without_end_spaces bytes

-- a cell of whole numbers may have spaces at both ends
abbrev pub trimmed : List ℕ → List ℕ
trimmed cell = without_end_spaces (without_front_spaces cell)

-- one digit or more
unfoldable pub are_digits : List ℕ → Bool
are_digits bytes = is_run is_ascii_digit bytes

-- the least value of a type of whole numbers, and the one past its greatest (DAP 2.0, base types)
abbrev pub least : BaseType → ℤ
least Int16 = neg_ℤ (pos (2 ^ 15))
least Int32 = neg_ℤ (pos (2 ^ 31))
least base = pos 0

abbrev pub limit : BaseType → ℤ
limit Byte = pos 256
limit Int16 = pos (2 ^ 15)
limit UInt16 = pos (2 ^ 16)
limit Int32 = pos (2 ^ 31)
limit UInt32 = pos (2 ^ 32)
limit base = pos 0

abbrev pub is_in : BaseType → ℤ → Bool
is_in base z = int_le (least base) z && int_lt z (limit base)

-- the number that a cell writes
unfoldable pub whole_of : List ℕ → ℤ
whole_of cell = signed_digits_value 10 (trimmed cell)

-- an optional `+` or `-` and digits, for a number of this type
unfoldable pub is_whole : BaseType → List ℕ → Bool
is_whole base cell = are_digits (without_leading_sign (trimmed cell)) && is_in base (whole_of cell)

-- `0x` and so many hexadecimal digits, and the bits that they write
unfoldable pub is_bits : ℕ → List ℕ → Bool
is_bits count cell = bytes_eq (take 2 cell) (codes "0x") && (length (drop 2 cell) == count && list_all is_ascii_hexdigit (drop 2 cell))

unfoldable pub bits_of : List ℕ → ℕ
bits_of cell = digits_value 16 (drop 2 cell)

-- a cell of a column of this type, and its value
abbrev pub is_cell : BaseType → List ℕ → Bool
is_cell Float32 cell = is_bits 8 cell
is_cell Float64 cell = is_bits 16 cell
is_cell Text cell = true
is_cell Url cell = true
is_cell base cell = is_whole base cell

abbrev pub cell_value : BaseType → List ℕ → Value
cell_value Float32 cell = values.Bits32 (bits_of cell)
cell_value Float64 cell = values.Bits64 (bits_of cell)
cell_value Text cell = values.Text cell
cell_value Url cell = values.Text cell
cell_value base cell = values.Whole (whole_of cell)
