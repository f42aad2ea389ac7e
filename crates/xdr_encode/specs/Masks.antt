-- The rows of a table that are sent: those where a mask is true (DAP 2.0, selections).
use Rattle.std.specs.Prelude.{◌≡◌, Bool, true, List, [], ◌∷◌, map, if◌then◌else◌}
use Rattle.csv_source.specs.Dataset.{row_tree, table_dataset, table_trees}
use Rattle.csv_source.specs.Table.{CsvTable}
use Rattle.dap_model.specs.Filter.{Marks, Keeps, constrained_trees}

-- the items where the mask is true
abbrev pub masked : {X : Type 0} → List Bool → List X → List X
masked [] xs = []
masked (keep ∷ mask) [] = []
masked (keep ∷ mask) (x ∷ xs) = if keep then x ∷ masked mask xs else masked mask xs

abbrev pub kept_table : List Bool → CsvTable → CsvTable
kept_table mask t = record t { rows = masked mask t.rows }

-- no row is left out further
abbrev pub all_rows : Keeps
all_rows n row = true

-- to keep rows by their values is to keep them by the mask that says so of each
abbrev pub MaskKeeps : Type 0
MaskKeeps = (t : CsvTable) (marks : Marks) (keeps : Keeps) →
    constrained_trees marks keeps (table_dataset t) (table_trees t)
    ≡ constrained_trees marks all_rows (table_dataset t) (table_trees (kept_table (map (λ row. keeps 1 (row_tree row)) t.rows) t))
