-- The printed DAS of a dataset's attributes (DAP 2.0, Dataset Attribute Structure; the layout is this
-- project's).
use Rattle.std.specs.Prelude.{ℕ, ◌+◌, ◌*◌, List, [], ◌∷◌, ◌++◌, codes}
use Rattle.std.specs.List.{flat_map}
use Rattle.dap_model.specs.Dds.{line, typed}
use Rattle.viable.specs.Quoted.{escape}
use Rattle.das_text.specs.Model.{Attributes, Entry, attribute, container, Entries, no_entries, entry}
use Rattle.das_text.specs.declared.entries.Attribute.{Attribute}
use Rattle.das_text.specs.declared.entries.Word.{Word}
use Rattle.das_text.specs.declared.entries.Word.TheVariants.{Plain, Quoted}

-- a word as it is, or a text between quotes
abbrev pub word_text : Word → List ℕ
word_text (Plain bytes) = bytes
word_text (Quoted text) = codes "\"" ++ escape text ++ codes "\""

-- a value behind another one
abbrev pub later_value : Word → List ℕ
later_value w = codes ", " ++ word_text w

-- one space before the first value, a comma and one space between values
abbrev pub values_text : List Word → List ℕ
values_text [] = []
values_text (w ∷ ws) = codes " " ++ word_text w ++ flat_map later_value ws

-- TYPE NAME V, V;
unfoldable pub attribute_text : ℕ → Attribute → List ℕ
attribute_text depth a = line (4 * depth) (typed a.base a.name ++ values_text a.values ++ codes ";")

-- an entry at a depth
abbrev mutual
  pub entry_text : ℕ → Entry → List ℕ
  entry_text depth (attribute a) = attribute_text depth a
  entry_text depth (container name entries) =
      line (4 * depth) (name ++ codes " {") ++ entries_text (depth + 1) entries ++ line (4 * depth) (codes "}")

  pub entries_text : ℕ → Entries → List ℕ
  entries_text depth no_entries = []
  entries_text depth (entry e es) = entry_text depth e ++ entries_text depth es

-- the whole text
unfoldable pub das : Attributes → List ℕ
das a = line 0 (codes "Attributes {") ++ entries_text 1 a.containers ++ line 0 (codes "}")
