-- The attributes of a dataset, in the terms of DAP 2.0. An attribute is the code's own record. What
-- nests is plain data here, so that definitions go by cases and recursion.
use Rattle.std.specs.Prelude.{ℕ, List, [], ◌∷◌}
use Rattle.das_text.specs.declared.entries.Attribute.{Attribute}

mutual
  -- what stands in a container (DAP 2.0, DAS)
  pub data Entry : Type 0 where
    attribute : Attribute → Entry
    container : List ℕ → Entries → Entry

  pub data Entries : Type 0 where
    no_entries : Entries
    entry : Entry → Entries → Entries

-- the attributes of a dataset: the containers in order (DAP 2.0, DAS)
pub record Attributes : Type 0 where
  pub containers : Entries

-- some entries, from a list of them
abbrev pub entries_of : List Entry → Entries
entries_of [] = no_entries
entries_of (e ∷ es) = entry e (entries_of es)
