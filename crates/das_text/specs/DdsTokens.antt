-- The tokens of a DDS as tokens of a text in which white space is free. A quote is a byte like others in a
-- DDS, so this is said of tokens without one.
use Rattle.std.specs.Prelude.{ℕ, Bool, false, true, not, List, [], ◌∷◌, ◌==◌, IsTrue, codes}
use Rattle.std.specs.List.{list_all}
use Rattle.dap_model.specs.Tokens as dds
use Rattle.text_tokens.specs.Tokens.{Token, sign, word, quoted, Placed, token_bytes}
use Rattle.viable.specs.Characters.{byte}

abbrev pub dds_signs : List ℕ
dds_signs = codes "{}[];=,:"

abbrev pub NoQuotes : List ℕ → Type 0
NoQuotes bytes = IsTrue (list_all (λ b. not (b == byte "\"")) bytes)

-- the text does not go on with a quote
abbrev pub NoQuoteNext : List ℕ → Type 0
NoQuoteNext [] = Unit {0}
NoQuoteNext (b ∷ rest) = IsTrue (not (b == byte "\""))

abbrev pub is_quoted : Token → Bool
is_quoted (quoted pieces) = true
is_quoted t = false

abbrev pub dds_token : Token → dds.Token
dds_token (sign b) = dds.sign b
dds_token (word bytes) = dds.word bytes
dds_token (quoted pieces) = dds.word (token_bytes (quoted pieces))

abbrev pub dds_placed : Placed → dds.Placed
dds_placed t = record { token = dds_token t.token; place = t.place }
