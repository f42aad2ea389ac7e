use Rattle.csv_source.proofs.TableNames.{table-has-words}
use Rattle.csv_source.proofs.laws.table_has_words.Goals as goal

pub returns : goal.returns
returns c = record { law = table-has-words }
