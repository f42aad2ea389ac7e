use Rattle.csv_source.proofs.Formed.{formed}
use Rattle.csv_source.proofs.laws.table_is_well_formed.Goals as goal

pub returns : goal.returns
returns c = record { law = formed }
