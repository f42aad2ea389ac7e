use Rattle.std.proofs.Common.{sym}
use Rattle.csv_source.specs.inner.Held.{fields_in}
use Rattle.csv_source.proofs.Rows.{held-count}
use Rattle.csv_source.proofs.table.Table.rows.Goals as goal

pub returns : goal.returns
returns c = rw (← c.self.view_is) (sym (held-count c.self.inside.columns c.self.inside.rows (fields_in c.self.inside.cells.ends.items c.self.inside.cells.text.items)))
