-- The grammar of a DAS (DAP 2.0, Dataset Attribute Structure) as a relation between tokens and attributes.
-- How deep containers nest is this project's profile.
--
--   das       = "Attributes" "{" container* "}"
--   container = word "{" entry* "}"
--   entry     = container | type word (value ("," value)*)? ";"
--   value     = word | quoted
use Rattle.std.specs.Prelude.{◌≡◌, ℕ, ◌+◌, ◌<◌, List, [], ◌∷◌, ◌++◌, Some, codes}
use Rattle.text_lines.specs.TypeWords.{base_of_word}
use Rattle.viable.specs.Characters.{byte}
use Rattle.viable.specs.Quoted.{quoted_value}
use Rattle.text_tokens.specs.Tokens.{Token, sign, word, quoted}
use Rattle.das_text.specs.Model.{Attributes, Entry, attribute, container, Entries, no_entries, entry}
use Rattle.das_text.specs.declared.entries.Word.{Word}
use Rattle.das_text.specs.declared.entries.Word.TheVariants.{Plain, Quoted}
use Rattle.dap_types.specs.Limits.{most_depth}

abbrev pub signs : List ℕ
signs = codes "{};,"

-- the token is a value
abbrev pub IsValue : Token → Word → Type 0
IsValue (word bytes) v = v ≡ Plain bytes
IsValue (quoted pieces) v = v ≡ Quoted (quoted_value pieces)
IsValue (sign b) v = ⊥

-- values, each behind a comma
abbrev pub LaterOf : List Token → List Word → Type 0
LaterOf tokens [] = tokens ≡ []
LaterOf tokens (v ∷ values) = (t : Token) × (later : List Token) × IsValue t v × LaterOf later values × (tokens ≡ sign (byte ",") ∷ t ∷ later)

-- values with a comma between two
abbrev pub ValuesOf : List Token → List Word → Type 0
ValuesOf tokens [] = tokens ≡ []
ValuesOf tokens (v ∷ values) = (t : Token) × (later : List Token) × IsValue t v × LaterOf later values × (tokens ≡ t ∷ later)

-- The tokens are an entry or entries with so many containers open around them. An attribute stands in a
-- container.
abbrev mutual
  pub EntryOf : ℕ → List Token → Entry → Type 0
  EntryOf depth tokens (attribute a) =
      (0 < depth) × (type : List ℕ) × (base_of_word type ≡ Some a.base)
      × (values : List Token) × ValuesOf values a.values × (tokens ≡ word type ∷ word a.name ∷ (values ++ sign (byte ";") ∷ []))
  EntryOf depth tokens (container name entries) =
      (depth < most_depth) × (inner : List Token) × EntriesOf (depth + 1) inner entries × (tokens ≡ word name ∷ sign (byte "{") ∷ (inner ++ sign (byte "}") ∷ []))

  pub EntriesOf : ℕ → List Token → Entries → Type 0
  EntriesOf depth tokens no_entries = tokens ≡ []
  EntriesOf depth tokens (entry e entries) =
      (first later : List Token) × EntryOf depth first e × EntriesOf depth later entries × (tokens ≡ first ++ later)

-- the tokens are a DAS of these attributes
abbrev pub IsDas : List Token → Attributes → Type 0
IsDas tokens a = (inner : List Token) × EntriesOf 0 inner a.containers × (tokens ≡ word (codes "Attributes") ∷ sign (byte "{") ∷ (inner ++ sign (byte "}") ∷ []))
