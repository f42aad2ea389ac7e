-- Attributes that can be printed as a DAS: names and plain values are words, containers alone stand at
-- the top, and they nest at most 16 deep.
use Rattle.std.specs.Prelude.{ℕ, ◌+◌, ◌<◌, List, [], ◌∷◌, IsTrue}
use Rattle.viable.specs.Runs.{is_run}
use Rattle.text_tokens.specs.Tokens.{is_word_byte}
use Rattle.das_text.specs.Grammar.{signs}
use Rattle.das_text.specs.Model.{Attributes, Entry, attribute, container, Entries, no_entries, entry}
use Rattle.das_text.specs.declared.entries.Word.{Word}
use Rattle.das_text.specs.declared.entries.Word.TheVariants.{Plain, Quoted}
use Rattle.dap_types.specs.Limits.{most_depth}

-- one or more bytes other than white space, signs and quotes
abbrev pub IsWord : List ℕ → Type 0
IsWord bytes = IsTrue (is_run (is_word_byte signs) bytes)

abbrev pub AreValues : List Word → Type 0
AreValues [] = Unit {0}
AreValues (Plain bytes ∷ values) = IsWord bytes × AreValues values
AreValues (Quoted text ∷ values) = AreValues values

-- an entry or entries with so many containers open around them
abbrev mutual
  pub EntryHasWords : ℕ → Entry → Type 0
  EntryHasWords depth (attribute a) = (0 < depth) × IsWord a.name × AreValues a.values
  EntryHasWords depth (container name entries) = (depth < most_depth) × IsWord name × HaveWords (depth + 1) entries

  pub HaveWords : ℕ → Entries → Type 0
  HaveWords depth no_entries = Unit {0}
  HaveWords depth (entry e entries) = EntryHasWords depth e × HaveWords depth entries

abbrev pub HasWords : Attributes → Type 0
HasWords a = HaveWords 0 a.containers
