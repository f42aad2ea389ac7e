use Rattle.csv_source.specs.inner.Held.{fields_in}
use Rattle.csv_source.proofs.Rows.{held-long}
use Rattle.csv_source.proofs.table.Table.columns.Goals as goal

pub returns-clause-each_row : goal.returns-clause-each_row
returns-clause-each_row c =
    rw (← c.self.view_is) (held-long c.self.inside.columns c.self.inside.rows (fields_in c.self.inside.cells.ends.items c.self.inside.cells.text.items) c.self.invariant.are_rows)
