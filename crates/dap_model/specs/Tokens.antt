-- The tokens of a DDS (DAP 2.0, DDS). White space is free between them.
use Rattle.std.specs.Prelude.{ℕ, ◌+◌, ◌-◌, List, [], ◌∷◌, ◌++◌, length, map, Bool, not, ◌&&◌, ◌||◌, nat_lt, ◌==◌, if◌then◌else◌, codes}
use Rattle.std.specs.List.{list_all, list_any}

pub data Token : Type 0 where
  -- one of { } [ ] ; = , :
  sign : ℕ → Token
  -- a longest run of bytes other than white space and signs
  word : List ℕ → Token

-- a token, and the number of bytes before it
pub record Placed : Type 0 where
  pub token : Token
  pub place : ℕ

abbrev pub is_white : ℕ → Bool
is_white b = list_any (λ c. c == b) (9 ∷ 10 ∷ 13 ∷ 32 ∷ [])

abbrev pub is_sign : ℕ → Bool
is_sign b = list_any (λ c. c == b) (codes "{}[];=,:")

-- a word is made of other bytes
abbrev pub is_plain : ℕ → Bool
is_plain b = not (is_white b || is_sign b)

abbrev pub is_word : List ℕ → Bool
is_word w = nat_lt 0 (length w) && list_all is_plain w

-- the word that ends at a place, if there is one
abbrev pub ended : List ℕ → ℕ → List Placed
ended [] at = []
ended (b ∷ bs) at = record { token = word (b ∷ bs); place = at - length (b ∷ bs) } ∷ []

abbrev pub sign_at : ℕ → ℕ → List Placed
sign_at b at = if is_sign b then record { token = sign b; place = at } ∷ [] else []

-- the whole tokens of the bytes from a place on, behind the front of a word. A word is whole once
-- the byte after it is there
abbrev pub tokens_from : List ℕ → ℕ → List ℕ → List Placed
tokens_from front at [] = []
tokens_from front at (b ∷ bs) =
    if is_white b || is_sign b
    then ended front at ++ sign_at b at ++ tokens_from [] (at + 1) bs
    else tokens_from (front ++ b ∷ []) (at + 1) bs

-- the whole tokens of a text
abbrev pub whole_tokens : List ℕ → List Placed
whole_tokens text = tokens_from [] 0 text

-- without their places
abbrev pub tokens_of : List ℕ → List Token
tokens_of text = map (λ p. p.token) (whole_tokens text)
