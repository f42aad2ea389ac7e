use Rattle.sequence_select.specs.Laws.{RowsAreKept}
use Rattle.sequence_select.proofs.TableRows.{rows-are-kept}
use Rattle.sequence_select.proofs.laws.rows_are_kept.Goals as goal

law : RowsAreKept
law = rows-are-kept

pub returns : goal.returns
returns c = record { law = law }
