use Rattle.std.proofs.Common.{arith}
use Rattle.dds_text.specs.After.{DdsStandsAfter}
use Rattle.dds_text.proofs.reader.DdsReader.new.Goals as goal

pub returns-clause-stands : goal.returns-clause-stands
unfolding DdsStandsAfter
returns-clause-stands c = (c.new.ensures, omega arith)
