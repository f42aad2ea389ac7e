use Rattle.dap_model.proofs.Numbering.{members_are_counted}
use Rattle.dap_model.proofs.number_laws.members_are_counted.Goals as goal
use Rattle.dap_model.specs.Numbering.{MembersAreCounted}

law : MembersAreCounted
law = members_are_counted

pub returns : goal.returns
returns c = record { law = law }
