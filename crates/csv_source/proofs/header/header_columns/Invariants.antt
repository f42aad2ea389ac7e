use Rattle.std.proofs.Common.{◌≡◌, ◌++◌, ◌+◌, drop}
use Rattle.csv.specs.Records.{fields_of}
use Rattle.csv_source.specs.Header.{columns_from}
use Rattle.csv_source.proofs.header.header_columns.Given as goal

abbrev pub invariant-fields : goal.invariant-fields
invariant-fields l = columns_from 1 (fields_of l.header) ≡ l.columns ++ columns_from (l.i + 1) (drop l.i (fields_of l.header))
