-- How the names of a file and of a constraint become names of variables (DAP 2.0, identifiers:
-- other bytes are escaped by % and two hexadecimal digits).
use Rattle.std.specs.List.{flat_map}
use Rattle.std.specs.Prelude.{ℕ, ◌+◌, ◌-◌, ◌/◌, ◌%◌, Bool, false, ◌&&◌, ◌||◌, List, [], ◌∷◌, ◌++◌, ◌==◌, nat_lt, nat_le, if◌then◌else◌, suc, zero}

-- a letter, a digit or one of _ - + * /
abbrev pub is_kept_byte : ℕ → Bool
is_kept_byte b = (nat_le 48 b && nat_le b 57) || ((nat_le 65 b && nat_le b 90) || ((nat_le 97 b && nat_le b 122) || (b == 95 || (b == 45 || (b == 43 || (b == 42 || b == 47))))))

abbrev pub is_hex_digit : ℕ → Bool
is_hex_digit b = (nat_le 48 b && nat_le b 57) || ((nat_le 65 b && nat_le b 70) || (nat_le 97 b && nat_le b 102))

-- a letter in upper case, and any other byte as it is
abbrev pub upper_case : ℕ → ℕ
upper_case b = if nat_le 97 b && nat_le b 122 then b - 32 else b

-- a digit of 0 to 15 in upper case
abbrev pub hex_digit : ℕ → ℕ
hex_digit n = if nat_lt n 10 then 48 + n else 55 + n

-- the byte, or % and its two digits
abbrev pub escaped_byte : ℕ → List ℕ
escaped_byte b = if is_kept_byte b then b ∷ [] else 37 ∷ hex_digit (b / 16) ∷ hex_digit (b % 16) ∷ []

-- a name of a file: each byte by itself
abbrev pub file_id : List ℕ → List ℕ
file_id bytes = flat_map escaped_byte bytes

-- two hexadecimal digits come next
abbrev pub begins_with_digits : List ℕ → Bool
begins_with_digits (a ∷ b ∷ bytes) = is_hex_digit a && is_hex_digit b
begins_with_digits _ = false

-- A % with two digits behind it stays; `left` of its digits are still to come.
abbrev pub constraint_id_from : ℕ → List ℕ → List ℕ
constraint_id_from left [] = []
constraint_id_from zero (b ∷ bytes) =
    let is_escape : Bool = b == 37 && begins_with_digits bytes in
    (if is_escape then 37 ∷ [] else escaped_byte b) ++ constraint_id_from (if is_escape then 2 else 0) bytes
constraint_id_from (suc left) (b ∷ bytes) = upper_case b ∷ constraint_id_from left bytes

-- a name of a constraint
unfoldable pub constraint_id : List ℕ → List ℕ
constraint_id bytes = constraint_id_from 0 bytes
