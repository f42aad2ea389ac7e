use Rattle.csv_source.proofs.Fitting.{fits}
use Rattle.csv_source.proofs.laws.table_fits.Goals as goal

pub returns : goal.returns
returns c = record { law = fits }
