use Rattle.std.proofs.Common.{ap, ◌∙◌}
use Rattle.csv_source.specs.inner.Held.{fields_in, held_rows}
use Rattle.csv_source.specs.Names.{sequence_name}
use Rattle.csv_source.proofs.Datasets.{table-attributes}
use Rattle.csv_source.proofs.table.Table.attributes.Goals as goal

pub returns : goal.returns
returns c =
    rw (← c.self.view_is) (
    table-attributes c.self.inside.file_name c.self.inside.columns (held_rows c.self.inside.columns c.self.inside.rows (fields_in c.self.inside.cells.ends.items c.self.inside.cells.text.items))
    c.in_ok-name.name c.new.result c.push.new.self
    (c.in_ok-name.ensures ∙ ap sequence_name c.bytes.ensures)
    c.new.ensures
    (rw c.new-containers.ensures at c.in_ok-push.ensures.ok)
    )
