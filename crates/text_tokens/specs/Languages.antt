-- What a text is to a language of tokens, a relation between lists of tokens and what they say: it spells
-- something, it has a bad token, or it breaks off.
use Rattle.std.specs.Prelude.{ℕ, List, [], ◌∷◌, ◌++◌, map, drop, IsTrue}
use Rattle.viable.specs.Prefix.{Begins}
use Rattle.text_tokens.specs.Tokens.{Token, Placed, is_token, Next, NoToken, Reads}

abbrev pub tokens_of : List Placed → List Token
tokens_of tokens = map (λ t. t.token) tokens

-- the tokens begin a text of the language
abbrev pub BeginsOne : {V : Type 0} → List ℕ → (List Token → V → Type 0) → List Token → Type 0
BeginsOne signs Language tokens = Begins (is_token signs) Language tokens

-- they begin one that has more tokens
abbrev pub Unended : {V : Type 0} → List ℕ → (List Token → V → Type 0) → List Token → Type 0
Unended signs Language tokens = (t : Token) × IsTrue (is_token signs t) × BeginsOne signs Language (tokens ++ t ∷ [])

-- the text up to a place spells this
pub record SpellsTo {V : Type 0} (signs : List ℕ) (Language : List Token → V → Type 0) (text : List ℕ) (behind : ℕ) (v : V) : Type 0 where
  pub tokens : List Placed
  pub read : Reads signs text 0 tokens behind
  pub says : Language (tokens_of tokens) v

-- at this place stands the first whole token behind which no text of the language goes on
pub record BadToken {V : Type 0} (signs : List ℕ) (Language : List Token → V → Type 0) (text : List ℕ) (place : ℕ) : Type 0 where
  pub tokens : List Placed
  pub at : ℕ
  pub bad : Token
  pub behind : ℕ
  pub read : Reads signs text 0 tokens at
  pub next : Next signs text at place behind bad
  pub unended : Unended signs Language (tokens_of tokens)
  pub ends : BeginsOne signs Language (tokens_of tokens ++ bad ∷ []) → ⊥

-- the whole tokens begin a text of the language and do not end it
pub record Breaks {V : Type 0} (signs : List ℕ) (Language : List Token → V → Type 0) (text : List ℕ) : Type 0 where
  pub tokens : List Placed
  pub at : ℕ
  pub read : Reads signs text 0 tokens at
  pub no_more : NoToken signs (drop at text)
  pub unended : Unended signs Language (tokens_of tokens)
