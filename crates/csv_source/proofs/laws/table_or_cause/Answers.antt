use Rattle.csv_source.proofs.FirstCauses.{table-or-cause}
use Rattle.csv_source.proofs.laws.table_or_cause.Goals as goal

pub returns : goal.returns
returns c = record { law = table-or-cause }
