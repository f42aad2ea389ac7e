-- The rows of a table in which a clause holds, in the words of a reader (DAP 2.0, constraint expressions:
-- selections).
use Rattle.std.specs.Prelude.{◌≡◌, ℕ, List, [], ◌∷◌, Some, slice_get}
use Rattle.dap_types.specs.declared.declarations.Column.{Column}
use Rattle.dap_types.specs.declared.values.Value.{Value}
use Rattle.constraint_parse.specs.declared.constraint.Op.{Op}
use Rattle.constraint_parse.specs.declared.constraint.Constant.{Constant}
use Rattle.constraint_parse.specs.declared.constraint.Clause.{Clause}
use Rattle.constraint_parse.specs.declared.constraint.Clause.TheVariants.{Compare}
use Rattle.csv_source.specs.Names.{sequence_name}
use Rattle.csv_source.specs.Table.{CsvTable, value_at}
use Rattle.sequence_select.specs.Comparisons.{IsValue}
use Rattle.sequence_select.specs.Operators.{Stands}

-- the row's cell in the column that the clause names stands in the operator's relation to one of the
-- clause's constants. Rows and columns count from 0
pub record HoldsIn (t : CsvTable) (row : ℕ) (clause : Clause) : Type 0 where
  pub path : List (List ℕ)
  pub op : Op
  pub constants : List Constant
  pub parts : clause ≡ Compare path op constants
  pub place : ℕ
  pub column : Column
  pub column_is : slice_get t.columns place ≡ Some column
  pub path_is : path ≡ sequence_name t.file_name ∷ column.name ∷ []
  pub cell : Value
  pub cell_is : value_at t row place ≡ Some cell
  pub constant_place : ℕ
  pub constant : Constant
  pub constant_is : slice_get constants constant_place ≡ Some constant
  pub value : Value
  pub value_is : IsValue constant value
  pub stands : Stands op cell value
