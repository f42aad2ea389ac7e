-- The escape that stands first in a name.
use Rattle.std.specs.Prelude.{ℕ, List, [], ◌∷◌, Option, None, option_map, ◌==◌, if◌then◌else◌}
use Rattle.netcdf_writer.specs.Names.{plain, escaped}

-- the byte that it stands for, and how many bytes it has
abbrev pub first_byte : List ℕ → Option (ℕ × ℕ)
first_byte [] = None
first_byte (a ∷ []) = option_map (λ b. (b, 1)) (plain a)
first_byte (a ∷ b ∷ []) = option_map (λ b. (b, 1)) (plain a)
first_byte (a ∷ b ∷ c ∷ rest) = if a == 37 then option_map (λ b. (b, 3)) (escaped b c) else option_map (λ b. (b, 1)) (plain a)
