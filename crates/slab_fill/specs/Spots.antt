-- Where equally spaced elements stand, and what is written for a number of two bytes.
use Rattle.std.specs.Prelude.{ℕ, ◌+◌, ◌*◌, List, [], ◌∷◌}
use Rattle.std.specs.Int.{to_be_bytes, from_be_bytes, cast_unsigned, cast_signed, w16, w32}

-- where element j stands of those that stand `step` bytes apart from `at` on
unfoldable pub spot : ℕ → ℕ → ℕ → ℕ
spot at step j = at + j * step

-- the word of a number of two bytes in two's complement, the high byte first (RFC 4506, integer)
unfoldable pub signed_word : ℕ → ℕ → List ℕ
signed_word high low = to_be_bytes w32 (cast_unsigned w32 (cast_signed w16 (from_be_bytes w16 (high ∷ low ∷ []))))

-- the word of a number of two bytes without a sign (RFC 4506, unsigned integer)
unfoldable pub unsigned_word : ℕ → ℕ → List ℕ
unsigned_word high low = to_be_bytes w32 (from_be_bytes w16 (high ∷ low ∷ []))
