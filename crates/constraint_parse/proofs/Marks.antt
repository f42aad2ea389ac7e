-- Marks: the first byte tells the token.
use Rattle.std.proofs.Common.{◌≡◌, List, ℕ, refl}
use Rattle.constraint_parse.specs.Language.{equal, not_equal, less, less_equal, greater, greater_equal, matches, Token, word, operator, comma, ampersand, dot, colon, open_bracket, close_bracket, open_brace, close_brace}
use Rattle.constraint_parse.proofs.Bytes.{Opens}

pub mark_open_bracket : (m : Token) → Opens m 91 → m ≡ open_bracket
mark_open_bracket open_bracket h = refl
mark_open_bracket (operator equal) h = cc
mark_open_bracket (operator not_equal) h = cc
mark_open_bracket (operator less) h = cc
mark_open_bracket (operator less_equal) h = cc
mark_open_bracket (operator greater) h = cc
mark_open_bracket (operator greater_equal) h = cc
mark_open_bracket (operator matches) h = cc
mark_open_bracket _ h = cc

pub mark_close_bracket : (m : Token) → Opens m 93 → m ≡ close_bracket
mark_close_bracket close_bracket h = refl
mark_close_bracket (operator equal) h = cc
mark_close_bracket (operator not_equal) h = cc
mark_close_bracket (operator less) h = cc
mark_close_bracket (operator less_equal) h = cc
mark_close_bracket (operator greater) h = cc
mark_close_bracket (operator greater_equal) h = cc
mark_close_bracket (operator matches) h = cc
mark_close_bracket _ h = cc

pub mark_comma : (m : Token) → Opens m 44 → m ≡ comma
mark_comma comma h = refl
mark_comma (operator equal) h = cc
mark_comma (operator not_equal) h = cc
mark_comma (operator less) h = cc
mark_comma (operator less_equal) h = cc
mark_comma (operator greater) h = cc
mark_comma (operator greater_equal) h = cc
mark_comma (operator matches) h = cc
mark_comma _ h = cc

pub mark_ampersand : (m : Token) → Opens m 38 → m ≡ ampersand
mark_ampersand ampersand h = refl
mark_ampersand (operator equal) h = cc
mark_ampersand (operator not_equal) h = cc
mark_ampersand (operator less) h = cc
mark_ampersand (operator less_equal) h = cc
mark_ampersand (operator greater) h = cc
mark_ampersand (operator greater_equal) h = cc
mark_ampersand (operator matches) h = cc
mark_ampersand _ h = cc

pub mark_open_brace : (m : Token) → Opens m 123 → m ≡ open_brace
mark_open_brace open_brace h = refl
mark_open_brace (operator equal) h = cc
mark_open_brace (operator not_equal) h = cc
mark_open_brace (operator less) h = cc
mark_open_brace (operator less_equal) h = cc
mark_open_brace (operator greater) h = cc
mark_open_brace (operator greater_equal) h = cc
mark_open_brace (operator matches) h = cc
mark_open_brace _ h = cc

pub mark_close_brace : (m : Token) → Opens m 125 → m ≡ close_brace
mark_close_brace close_brace h = refl
mark_close_brace (operator equal) h = cc
mark_close_brace (operator not_equal) h = cc
mark_close_brace (operator less) h = cc
mark_close_brace (operator less_equal) h = cc
mark_close_brace (operator greater) h = cc
mark_close_brace (operator greater_equal) h = cc
mark_close_brace (operator matches) h = cc
mark_close_brace _ h = cc

-- a word may begin so too
pub mark_dot : (m : Token) → ((x : List ℕ) → m ≡ word x → ⊥) → Opens m 46 → m ≡ dot
mark_dot dot w h = refl
mark_dot (word x) w h = absurd (w x refl)
mark_dot (operator equal) w h = cc
mark_dot (operator not_equal) w h = cc
mark_dot (operator less) w h = cc
mark_dot (operator less_equal) w h = cc
mark_dot (operator greater) w h = cc
mark_dot (operator greater_equal) w h = cc
mark_dot (operator matches) w h = cc
mark_dot _ w h = cc

-- a word may begin so too
pub mark_colon : (m : Token) → ((x : List ℕ) → m ≡ word x → ⊥) → Opens m 58 → m ≡ colon
mark_colon colon w h = refl
mark_colon (word x) w h = absurd (w x refl)
mark_colon (operator equal) w h = cc
mark_colon (operator not_equal) w h = cc
mark_colon (operator less) w h = cc
mark_colon (operator less_equal) w h = cc
mark_colon (operator greater) w h = cc
mark_colon (operator greater_equal) w h = cc
mark_colon (operator matches) w h = cc
mark_colon _ w h = cc
