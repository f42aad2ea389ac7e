-- The dataset that a table builds.
use Rattle.std.proofs.Common.{◌≡◌, ℕ, List, [], ◌∷◌, ◌++◌, refl}
use Rattle.dap_types.specs.View.{dataset_view}
use Rattle.dap_types.specs.declared.declarations.Column.{Column}
use Rattle.dap_types.specs.declared.declarations.Decl.{Decl, Sequence}
use Rattle.dap_types.specs.declared.values.Value.{Value}
use Rattle.dap_types.proofs.Views.{view-Sequence}
use Rattle.das_text.proofs.Views.{view-Container}
use Rattle.das_text.specs.View.{attributes_view}
use Rattle.das_text.specs.declared.entries.Entry.{Entry, Container}
use Rattle.csv_source.specs.Dataset.{table_attributes, table_dataset}
use Rattle.file_names.specs.Names.{dataset_name}
use Rattle.csv_source.specs.Names.{sequence_name}
use Rattle.csv_source.specs.Table.{table}

pub table-dataset : (file_name : List ℕ) (columns : List Column) (rows : List (List Value)) (name sequence : List ℕ) (copies : List Column) (members : List Decl)
    → name ≡ dataset_name file_name → sequence ≡ sequence_name file_name → copies ≡ columns → members ≡ [] ++ Sequence sequence copies ∷ []
    → dataset_view record { name = name; members = members } ≡ table_dataset (table file_name columns rows)
table-dataset file_name columns rows name sequence copies members is_name is_sequence same are =
    rw (are, is_name, is_sequence, same, view-Sequence (sequence_name file_name) columns) refl

pub table-attributes : (file_name : List ℕ) (columns : List Column) (rows : List (List Value)) (name : List ℕ) (entries containers : List Entry)
    → name ≡ sequence_name file_name → entries ≡ [] → containers ≡ [] ++ Container name entries ∷ []
    → attributes_view record { containers = containers } ≡ table_attributes (table file_name columns rows)
table-attributes file_name columns rows name entries containers is_name none are =
    rw (are, is_name, none, view-Container (sequence_name file_name) []) refl
