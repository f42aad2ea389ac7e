use Rattle.das_text.proofs.EveryText.{every_text}
use Rattle.das_text.proofs.laws.every_reading.Goals as goal

pub returns : goal.returns
returns c = record { law = every_text }
