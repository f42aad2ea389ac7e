-- The attributes that the code's values stand for.
use Rattle.std.specs.Prelude.{List, map}
use Rattle.das_text.specs.Model.{Entry, attribute, container, Entries, entries_of}
use Rattle.das_text.specs.Model as model
use Rattle.das_text.specs.declared.entries.Attributes.{Attributes}
use Rattle.das_text.specs.declared.entries.Entry.{Entry-F, fold-Entry}
use Rattle.das_text.specs.declared.entries.Entry as code
use Rattle.das_text.specs.declared.entries.Entry.TheOpen.{Attr, Container}

-- one level, with each part already seen
abbrev pub entry_step : Entry-F Entry → Entry
entry_step (Attr a) = attribute a
entry_step (Container name entries) = container name (entries_of entries)

-- an entry of a container
unfoldable pub entry_view : code.Entry → Entry
entry_view = fold-Entry Entry entry_step

abbrev pub entries_view : List code.Entry → Entries
entries_view entries = entries_of (map entry_view entries)

-- the attributes of a dataset
abbrev pub attributes_view : Attributes → model.Attributes
attributes_view a = record { containers = entries_view a.containers }
