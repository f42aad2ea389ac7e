-- What is sent of one row, and of one cell; and what is still to come of a row, and of a table.
use Rattle.std.specs.Prelude.{ℕ, List, [], drop, map, get_or, false, if◌then◌else◌}
use Rattle.std.specs.List.{flat_map}
use Rattle.std.specs.Option.{option_map_or}
use Rattle.csv_source.specs.Table.{value_at}
use Rattle.dap_model.specs.Xdr.{bytes_of, cell_fields, value_fields}
use Rattle.dap_types.specs.Model.{one}
use Rattle.dap_types.specs.declared.declarations.BaseType.TheVariants.{Int32}
use Rattle.xdr_encode.specs.Masks.{masked}
use Rattle.xdr_encode.specs.Rows.{chosen_fields, row_at}
use Rattle.xdr_encode.specs.declared.kept.Rows.{Rows}

-- nothing of a cell whose column is not sent
unfoldable pub cell_sent : Rows → ℕ → ℕ → List ℕ
cell_sent r row column = if get_or r.columns column false then option_map_or (λ v. bytes_of (value_fields Int32 v)) (value_at r.table row column) [] else []

-- from a column on
unfoldable pub cells_from : Rows → ℕ → ℕ → List ℕ
cells_from r row column = bytes_of (cell_fields (masked (drop column r.columns) (drop column r.table.columns)) (map one (masked (drop column r.columns) (drop column (row_at r.table row)))))

-- nothing of a row where the mask is false
unfoldable pub row_sent : Rows → ℕ → List ℕ
row_sent r row = if get_or r.mask row false then bytes_of (chosen_fields r.table.columns r.columns (row_at r.table row)) else []

-- from a row on
unfoldable pub rows_from : Rows → ℕ → List ℕ
rows_from r row = bytes_of (flat_map (chosen_fields r.table.columns r.columns) (masked (drop row r.mask) (drop row r.table.rows)))
