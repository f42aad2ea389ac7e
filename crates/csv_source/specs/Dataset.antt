-- The dataset of a table, its values and its attributes: one Sequence with a row for each row of the
-- table (DAP 2.0, Sequence, DAS; the names are this project's).
use Rattle.std.specs.Prelude.{List, [], ◌∷◌, map}
use Rattle.das_text.specs.Model.{Attributes, container, entries_of, no_entries}
use Rattle.dap_types.specs.Model.{Dataset, sequence, members_of, Tree, one, many, trees_of}
use Rattle.dap_types.specs.declared.values.Value.{Value}
use Rattle.file_names.specs.Names.{dataset_name}
use Rattle.csv_source.specs.Names.{sequence_name}
use Rattle.csv_source.specs.Table.{CsvTable}

abbrev pub table_dataset : CsvTable → Dataset
table_dataset t = record { name = dataset_name t.file_name; members = members_of (sequence (sequence_name t.file_name) t.columns ∷ []) }

-- a row: the values of its cells
abbrev pub row_tree : List Value → Tree
row_tree row = many (trees_of (map one row))

-- the values of the Sequence: its rows
abbrev pub rows_tree : CsvTable → Tree
rows_tree t = many (trees_of (map row_tree t.rows))

-- the values of the dataset
abbrev pub table_trees : CsvTable → List Tree
table_trees t = rows_tree t ∷ []

-- one container without entries, of the Sequence's name
abbrev pub table_attributes : CsvTable → Attributes
table_attributes t = record { containers = entries_of (container (sequence_name t.file_name) no_entries ∷ []) }
