use Rattle.dap_model.proofs.Partly.{part_is_of_lines}
use Rattle.dap_model.proofs.reading_laws.part_is_of_lines.Goals as goal
use Rattle.dap_model.specs.Partly.{PartIsOfLines}

law : PartIsOfLines
law = part_is_of_lines

pub returns : goal.returns
returns c = record { law = law }
