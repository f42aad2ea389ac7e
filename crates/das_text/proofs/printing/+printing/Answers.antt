use Rattle.std.proofs.Common.{ap, ◌∙◌}
use Rattle.das_text.proofs.Views.{view-Container}
use Rattle.das_text.specs.Das.{entry_text}
use Rattle.das_text.specs.View.{entry_view}
use Rattle.dap_model.proofs.Grown.{grown_by_three}
use Rattle.das_text.proofs.printing.+printing.Goals as goal

pub put_entry-returns-in_ok-put_line-in-Container : goal.put_entry-returns-in_ok-put_line-in-Container
put_entry-returns-in_ok-put_line-in-Container t c =
    grown_by_three _ _ _ _ _ _ _ _ c.in_ok-put_opening-in-Container.ensures
    (rw c.items.ensures at c.in_ok-put_entries-in-Container.ensures) c.in_ok-put_line-in-Container.ensures
    (ap (entry_text c.args.depth) (ap entry_view c.in-Container.is ∙ view-Container c.in-Container.name c.in-Container.entries))
