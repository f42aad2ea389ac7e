use Rattle.std.proofs.Common.{◌≡◌, ◌++◌, take}
use Rattle.std.specs.List.{flat_map}
use Rattle.dap_model.specs.Dds.{column_text}
use Rattle.dds_text.proofs.declarations.put_columns.Given as goal

abbrev pub invariant-loop-column : goal.invariant-loop-column
invariant-loop-column l = l.out.items ≡ l.fn.out.items ++ flat_map (column_text l.depth) (take l.column-index l.columns)
