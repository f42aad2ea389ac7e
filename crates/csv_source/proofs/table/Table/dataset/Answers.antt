use Rattle.std.proofs.Common.{ap, ◌∙◌}
use Rattle.dap_types.proofs.Rules.{well_formed_without_fault}
use Rattle.file_names.specs.Names.{dataset_name}
use Rattle.csv_source.specs.inner.Held.{fields_in, held_rows}
use Rattle.csv_source.specs.Names.{sequence_name}
use Rattle.csv_source.proofs.Datasets.{table-dataset}
use Rattle.csv_source.proofs.Formed.{no-fault}
use Rattle.csv_source.proofs.table.Table.dataset.Goals as goal

pub returns-clause-dataset : goal.returns-clause-dataset
returns-clause-dataset c =
    rw (← c.self.view_is) (
    table-dataset c.self.inside.file_name c.self.inside.columns (held_rows c.self.inside.columns c.self.inside.rows (fields_in c.self.inside.cells.ends.items c.self.inside.cells.text.items))
    c.in_ok-dataset_id.field-0 c.in_ok-sequence_id.field-0 c.in_ok-columns.columns c.push.new.self
    (c.in_ok-dataset_id.ensures ∙ ap dataset_name c.bytes-2.ensures)
    (c.in_ok-sequence_id.ensures ∙ ap sequence_name c.bytes.ensures)
    (c.in_ok-columns.ensures ∙ c.items.ensures)
    (rw c.new-members.ensures at c.in_ok-push.ensures.ok)
    )

pub returns-clause-well_formed : goal.returns-clause-well_formed
returns-clause-well_formed c =
    rw (
    table-dataset c.self.inside.file_name c.self.inside.columns (held_rows c.self.inside.columns c.self.inside.rows (fields_in c.self.inside.cells.ends.items c.self.inside.cells.text.items))
    c.in_ok-dataset_id.field-0 c.in_ok-sequence_id.field-0 c.in_ok-columns.columns c.push.new.self
    (c.in_ok-dataset_id.ensures ∙ ap dataset_name c.bytes-2.ensures)
    (c.in_ok-sequence_id.ensures ∙ ap sequence_name c.bytes.ensures)
    (c.in_ok-columns.ensures ∙ c.items.ensures)
    (rw c.new-members.ensures at c.in_ok-push.ensures.ok)
    ) (well_formed_without_fault _ (no-fault (dataset_name c.self.inside.file_name) (sequence_name c.self.inside.file_name) c.self.inside.columns c.self.invariant.few c.self.invariant.once))
