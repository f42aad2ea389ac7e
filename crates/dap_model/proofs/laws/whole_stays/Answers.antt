use Rattle.std.proofs.Common.{ap, []}
use Rattle.dap_model.proofs.Whole.{filtered_all_whole, all_trees_whole}
use Rattle.dap_model.proofs.laws.whole_stays.Goals as goal
use Rattle.dap_model.specs.Laws.{WholeStays}

law : WholeStays
law marks d ts is leaves whole fit =
    (ap (λ ms. record d { members = ms }) (filtered_all_whole marks d.members 1 1 [] is.mapped leaves whole), all_trees_whole marks d.members 1 ts leaves whole fit)

pub returns : goal.returns
returns c = record { law = law }
