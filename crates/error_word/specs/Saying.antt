-- Whether a body is an Error object (DAP 2.0, Error objects), whatever it was asked for: its first token,
-- as a DDS has them, is the word `Error`, in any case.
use Rattle.std.specs.Prelude.{ℕ, Bool, false, List, [], ◌∷◌}
use Rattle.std.specs.List.{prefix_len}
use Rattle.dap_errors.specs.Object.{is_error_word}
use Rattle.dap_model.specs.Tokens.{Token, is_white, tokens_of}
use Rattle.dap_model.specs.Tokens as token

-- the first token is that word
abbrev pub begins_error : List Token → Bool
begins_error [] = false
begins_error (token.word w ∷ ts) = is_error_word w
begins_error (token.sign b ∷ ts) = false

unfoldable pub says_error : List ℕ → Bool
says_error bytes = begins_error (tokens_of bytes)

-- the place at which the first token of a body begins, behind white space
abbrev pub begins_at : List ℕ → ℕ
begins_at bytes = prefix_len is_white bytes
