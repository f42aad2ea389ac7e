use Rattle.csv_source.proofs.LastColons.{typed-by-last-colon}
use Rattle.csv_source.proofs.laws.typed_by_last_colon.Goals as goal

pub returns : goal.returns
returns c = record { law = typed-by-last-colon }
