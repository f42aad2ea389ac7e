use Rattle.dap_model.proofs.Paths.{paths_differ}
use Rattle.dap_model.proofs.laws.paths_differ.Goals as goal
use Rattle.dap_model.specs.Laws.{PathsDiffer}

law : PathsDiffer
law = paths_differ

pub returns : goal.returns
returns c = record { law = law }
