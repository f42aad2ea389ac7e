-- The name in a file that became the name of a variable (DAP 2.0, identifiers): each byte by itself, or
-- by % and its two hexadecimal digits in upper case.
use Rattle.std.specs.Prelude.{ℕ, ◌+◌, ◌-◌, ◌*◌, Bool, false, ◌&&◌, ◌||◌, not, List, [], ◌∷◌, length, Option, Some, None, nat_lt, nat_le, ◌==◌, if◌then◌else◌}
use Rattle.std.specs.Option.{option_map_or}
use Rattle.dap_types.specs.Limits.{most_name}
use Rattle.dap_types.specs.Names.{is_kept_byte}

-- a digit of an escape, which is never in lower case
abbrev pub is_digit : ℕ → Bool
is_digit b = (nat_le 48 b && nat_le b 57) || (nat_le 65 b && nat_le b 70)

abbrev pub digit_of : ℕ → ℕ
digit_of b = if nat_lt b 65 then b - 48 else b - 55

-- the byte of two digits
abbrev pub byte_of : ℕ → ℕ → ℕ
byte_of high low = digit_of high * 16 + digit_of low

-- the byte that these two digits stand for: one that does not stand for itself
abbrev pub escaped : ℕ → ℕ → Option ℕ
escaped high low = if is_digit high && is_digit low && not (is_kept_byte (byte_of high low)) then Some (byte_of high low) else None

-- the byte, where it stands for itself
abbrev pub plain : ℕ → Option ℕ
plain b = if is_kept_byte b then Some b else None

abbrev pub before : Option ℕ → Option (List ℕ) → Option (List ℕ)
before (Some b) (Some bytes) = Some (b ∷ bytes)
before (Some b) None = None
before None bytes = None

-- the bytes whose escape the name is, where there are such bytes
unfoldable pub undone : List ℕ → Option (List ℕ)
undone [] = Some []
undone (a ∷ []) = before (plain a) (Some [])
undone (a ∷ b ∷ []) = before (plain a) (undone (b ∷ []))
undone (a ∷ b ∷ c ∷ rest) = if a == 37 then before (escaped b c) (undone rest) else before (plain a) (undone (b ∷ c ∷ rest))

-- a name in a netCDF file has 1 to 256 bytes (the limit is this project's)
abbrev pub is_name_length : ℕ → Bool
is_name_length n = nat_le 1 n && nat_le n most_name

-- the name is that of such a name in a file
unfoldable pub is_file_name : List ℕ → Bool
is_file_name name = option_map_or (λ bytes. is_name_length (length bytes)) (undone name) false

-- and that name
unfoldable pub file_name : List ℕ → List ℕ
file_name name = option_map_or (λ bytes. bytes) (undone name) []
