use Rattle.dap_model.proofs.Numbering.{paths_name_members}
use Rattle.dap_model.proofs.number_laws.paths_name_members.Goals as goal
use Rattle.dap_model.specs.Numbering.{PathsNameMembers}

law : PathsNameMembers
law = paths_name_members

pub returns : goal.returns
returns c = record { law = law }
