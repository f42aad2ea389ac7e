use Rattle.dds_text.proofs.EveryReading.{every_reading}
use Rattle.dds_text.proofs.laws.every_reading.Goals as goal

pub returns : goal.returns
returns c = record { law = every_reading }
