-- The value that a cell lends.
use Rattle.dap_types.specs.declared.values.Value.{Value}
use Rattle.dap_types.specs.declared.values.Value.TheVariants as values
use Rattle.csv_source.specs.declared.cell.Cell.{Cell}
use Rattle.csv_source.specs.declared.cell.Cell.TheVariants.{Whole, Text, Bits32, Bits64}

abbrev pub lent_value : Cell → Value
lent_value (Whole z) = values.Whole z
lent_value (Text bytes) = values.Text bytes.now
lent_value (Bits32 n) = values.Bits32 n
lent_value (Bits64 n) = values.Bits64 n
