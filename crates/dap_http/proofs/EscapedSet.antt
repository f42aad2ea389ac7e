-- The set has the bytes that are not plain.
use Rattle.std.proofs.Common.{◌≡◌, ◌<◌, ℕ, suc, Bool, true, false, not, List, [], ◌∷◌, get_or, refl}
use Rattle.std.specs.Prelude.{if◌then◌else◌}
use Rattle.percent_encoding.specs.Percent.{encode_byte, percent_encode, percent_encode_byte}
use Rattle.std.proofs.lemmas.Bool.{agree_below, agree_below_at}
use Rattle.percent_encoding.specs.AsciiSet.{should_percent_encode}
use Rattle.dap_http.specs.declared.escapes.TheConstants.{ESCAPED}
use Rattle.dap_http.specs.Texts.{escaped, escaped_byte, is_plain}

pub escaped_set : agree_below (should_percent_encode ESCAPED) (λ b. not (is_plain b)) 256 ≡ true
unfolding should_percent_encode is_plain
escaped_set = refl

plain_or_not : (b : ℕ) (p s : Bool) → s ≡ not p → is_plain b ≡ p
    → (if s then percent_encode_byte b else b ∷ []) ≡ escaped_byte b
unfolding percent_encode_byte
plain_or_not b true s e p = rw (e, p) refl
plain_or_not b false s e p = rw (e, p) refl

-- the set escapes each byte as it is to be
pub encode_byte_is : (b : ℕ) → b < 256 → encode_byte ESCAPED b ≡ escaped_byte b
encode_byte_is b small =
    plain_or_not b (is_plain b) (should_percent_encode ESCAPED b) (agree_below_at (should_percent_encode ESCAPED) (λ n. not (is_plain n)) 256 b escaped_set small) refl

-- and so each text
pub encode_is : (xs : List ℕ) → ((i : ℕ) → get_or xs i 0 < 256) → percent_encode ESCAPED xs ≡ escaped xs
unfolding percent_encode
encode_is [] small = refl
encode_is (b ∷ xs) small = rw (encode_byte_is b (small 0), encode_is xs (λ i. small (suc i))) refl
