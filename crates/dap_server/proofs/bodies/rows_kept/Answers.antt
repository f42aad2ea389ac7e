use Rattle.std.proofs.Common.{◌∙◌, ap}
use Rattle.csv_source.specs.Dataset.{table_dataset}
use Rattle.sequence_select.specs.Selections.{selections}
use Rattle.sequence_select.specs.Tests.{tested}
use Rattle.dap_server.proofs.Sending as sending
use Rattle.dap_server.proofs.bodies.rows_kept.Goals as goal

pub returns : goal.returns
returns g c =
    sending.rows_of c.args.table.now (tested c.in_ok-tests.tests) (selections (table_dataset c.args.table.now) c.args.constraint.now) c.in_ok-rows.rows c.mask.new.out
    (c.in_ok-rows.ensures ∙ c.rows.ensures) c.mask.ensures.kept (c.in_ok-tests.ensures ∙ ap (λ d. selections d c.args.constraint.now) c.requires.dataset)
