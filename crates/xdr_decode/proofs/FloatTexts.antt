-- The texts of floats by their bits, in the digits of a shown value.
use Rattle.std.proofs.Common.{◌≡◌, ℕ, zero, suc, ◌/◌, ◌%◌, List, [], ◌∷◌, ◌++◌, codes, false, refl, ap, ◌∙◌}
use Rattle.std.specs.Float.{binary32, binary64}
use Rattle.std.specs.Fmt.{digit_glyph}
use Rattle.dap_model.specs.Shown.{hex}
use Rattle.float_text.specs.Hexadecimal as words
use Rattle.float_text.specs.Text.{IsTextOf}
use Rattle.float_text.specs.declared.floats.Floats.TheVariants as ways

same-digits : (count bits : ℕ) → words.hex count bits ≡ hex count bits
same-digits zero bits = refl
same-digits (suc count) bits = ap (λ digits. digits ++ digit_glyph false (bits % 16) ∷ []) (same-digits count (bits / 16))

pub text32 : (bits : ℕ) (text : List ℕ) → IsTextOf binary32 ways.Bits bits text → text ≡ codes "0x" ++ hex 8 bits
unfolding IsTextOf
text32 bits text is = is ∙ ap (λ digits. codes "0x" ++ digits) (same-digits 8 bits)

pub text64 : (bits : ℕ) (text : List ℕ) → IsTextOf binary64 ways.Bits bits text → text ≡ codes "0x" ++ hex 16 bits
unfolding IsTextOf
text64 bits text is = is ∙ ap (λ digits. codes "0x" ++ digits) (same-digits 16 bits)
