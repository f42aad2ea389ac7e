-- The names that a target may have (this project's): 1 to 255 bytes, in segments that are not empty and do not begin
-- with a point.
use Rattle.std.specs.Prelude.{ℕ, Bool, false, ◌&&◌, ◌||◌, not, List, [], ◌∷◌, length, nat_le, nat_lt, ◌==◌, codes}
use Rattle.std.specs.List.{list_all, list_any, slice_split}
use Rattle.std.specs.Char.{is_ascii_alphanumeric}

abbrev pub is_name_byte : ℕ → Bool
is_name_byte b = is_ascii_alphanumeric b || list_any (λ c. c == b) (codes "_.+-")

abbrev pub is_slash : ℕ → Bool
is_slash b = b == 47

abbrev pub is_segment : List ℕ → Bool
is_segment [] = false
is_segment (b ∷ bytes) = not (b == 46) && list_all is_name_byte (b ∷ bytes)

unfoldable pub is_name : List ℕ → Bool
is_name name =
    nat_lt 0 (length name) && nat_le (length name) 255 && list_all is_segment (slice_split is_slash name)
