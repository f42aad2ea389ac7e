use Rattle.std.proofs.Common.{◌≡◌, ◌+◌, length, drop}
use Rattle.std.specs.List.{flat_map}
use Rattle.dap_model.specs.Dds.{column_text}
use Rattle.dds_text.proofs.measure.behind_columns.Given as goal

-- what is left, with what is spent on those so far
abbrev pub invariant-loop-column : goal.invariant-loop-column
invariant-loop-column l = l.fn.left + length (flat_map (column_text l.depth) (drop l.column-index l.columns)) ≡ l.left + length (flat_map (column_text l.depth) l.columns)
