use Rattle.viable.specs.Prefix.{is_byte}
use Rattle.constraint_parse.specs.Values.{Spells}
use Rattle.constraint_parse.proofs.OneFault as faults
use Rattle.constraint_parse.proofs.laws.one_fault.Goals as goal

pub returns : goal.returns
returns c text one other = faults.one_fault is_byte Spells text one other
