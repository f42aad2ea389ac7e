-- What the definitions of this crate promise, each as a statement over all constraints and rows.
use Rattle.std.specs.Prelude.{◌≡◌, ◌↔◌, ◌<◌, ◌+◌, ◌&&◌, ℕ, Bool, true, false, List, None, All, length, filter, nat_lt, nat_le}
use Rattle.std.specs.List.{AllZip}
use Rattle.std.specs.Option.{option_map_or}
use Rattle.dap_model.specs.Fits.{FitsRow}
use Rattle.dap_model.specs.Rows.{Selection, kept, order}
use Rattle.dap_types.specs.Model.{Dataset, Tree}
use Rattle.dap_types.specs.WellFormed.{IsWellFormed}
use Rattle.dap_types.specs.declared.declarations.Column.{Column}
use Rattle.dap_types.specs.declared.values.Value.{Value}
use Rattle.constraint_parse.specs.declared.constraint.Constraint.{Constraint}
use Rattle.constraint_parse.specs.declared.constraint.Op.{Op}
use Rattle.csv_source.specs.Dataset.{row_tree, table_dataset}
use Rattle.csv_source.specs.Table.{CsvTable}
use Rattle.grid_projection.specs.Resolved.{cause}
use Rattle.sequence_select.specs.Comparisons.{IsSelectionOf}
use Rattle.sequence_select.specs.KeptRows.{HoldsIn}
use Rattle.sequence_select.specs.Operators.{Stands}
use Rattle.sequence_select.specs.Selections.{relation_of, row_of, selections}

-- a constant is found to stand in an operator's relation exactly where it does
abbrev pub OperatorsRelate : Type 0
OperatorsRelate = (op : Op) (v w : Value) → (option_map_or (relation_of op) (order v w) false ≡ true) ↔ Stands op v w

-- a constraint without a cause has a selection for each of its clauses, in order
abbrev pub NoClauseIsLost : Type 0
NoClauseIsLost = (d : Dataset) (c : Constraint) → IsWellFormed d → cause d c ≡ None →
    (length (selections d c) ≡ length c.clauses) × AllZip (IsSelectionOf d) c.clauses (selections d c)

-- a selection on one of these columns of the Sequence with this number: their numbers follow its own
abbrev pub is_on : ℕ → List Column → Selection → Bool
is_on n columns clause = nat_lt n clause.column && nat_le clause.column (n + length columns)

-- whether a row of a Sequence stays depends only on the selections on its own columns
abbrev pub OwnClausesDecide : Type 0
OwnClausesDecide = (n : ℕ) (columns : List Column) (row : Tree) (clauses others : List Selection) → FitsRow columns row →
    filter (is_on n columns) clauses ≡ filter (is_on n columns) others → kept clauses n row ≡ kept others n row

-- a constraint without a cause keeps the rows of a table in which each of its clauses holds
abbrev pub RowsAreKept : Type 0
RowsAreKept = (t : CsvTable) (c : Constraint) (row : ℕ) → IsWellFormed (table_dataset t) → All (λ values. length values ≡ length t.columns) t.rows → row < length t.rows →
    cause (table_dataset t) c ≡ None → (kept (selections (table_dataset t) c) 1 (row_tree (row_of t row)) ≡ true) ↔ All (HoldsIn t row) c.clauses
