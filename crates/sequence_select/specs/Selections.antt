-- The clauses of a constraint as selections of rows (DAP 2.0, constraint expressions: selections).
use Rattle.std.specs.Prelude.{ℕ, Bool, List, [], ◌∷◌, Option, Some, None, slice_get}
use Rattle.std.specs.List.{flat_map}
use Rattle.std.specs.Option.{option_map_or}
use Rattle.std.specs.Ordering.{is_eq, is_ne, is_lt, is_le, is_gt, is_ge}
use Rattle.std.specs.declared.cmp.Ordering.{Ordering}
use Rattle.dap_model.specs.Rows.{Selection}
use Rattle.dap_types.specs.Model.{Dataset}
use Rattle.dap_types.specs.WellFormed.{number_of}
use Rattle.dap_types.specs.declared.values.Value.{Value}
use Rattle.dap_types.specs.declared.values.Value.TheVariants as values
use Rattle.constraint_parse.specs.declared.constraint.Number.TheVariants.{Small, Big}
use Rattle.constraint_parse.specs.declared.constraint.Op.{Op}
use Rattle.constraint_parse.specs.declared.constraint.Op.TheVariants.{Equal, NotEqual, Less, LessEqual, Greater, GreaterEqual}
use Rattle.constraint_parse.specs.declared.constraint.Constant.{Constant}
use Rattle.constraint_parse.specs.declared.constraint.Constant.TheVariants.{Whole, Text, Other}
use Rattle.constraint_parse.specs.declared.constraint.Clause.{Clause}
use Rattle.constraint_parse.specs.declared.constraint.Clause.TheVariants.{Compare, Match, Call}
use Rattle.constraint_parse.specs.declared.constraint.Constraint.{Constraint}
use Rattle.csv_source.specs.Table.{CsvTable}

-- the orders of a value and a constant at which an operator holds
abbrev pub relation_of : Op → Ordering → Bool
relation_of Equal order = is_eq order
relation_of NotEqual order = is_ne order
relation_of Less order = is_lt order
relation_of LessEqual order = is_le order
relation_of Greater order = is_gt order
relation_of GreaterEqual order = is_ge order

-- the value of a constant, of those that have an order
abbrev pub constant_values : Constant → List Value
constant_values (Whole (Small z)) = values.Whole z ∷ []
constant_values (Whole Big) = []
constant_values (Text bytes) = values.Text bytes ∷ []
constant_values Other = []

-- a comparison of the member with this number
abbrev pub compared : Option ℕ → Op → List Constant → List Selection
compared None op constants = []
compared (Some n) op constants = record { column = n; relation = relation_of op; values = flat_map constant_values constants } ∷ []

-- a clause, whose column has the number that its path has
abbrev pub selection_in : (List (List ℕ) → Option ℕ) → Clause → List Selection
selection_in number (Compare path op constants) = compared (number path) op constants
selection_in number Match = []
selection_in number Call = []

-- the clauses of a constraint on a dataset
abbrev pub selections : Dataset → Constraint → List Selection
selections d c = flat_map (selection_in (number_of d)) c.clauses

-- the values of a row of a table, the first row being at 0
abbrev pub row_of : CsvTable → ℕ → List Value
row_of t row = option_map_or (λ values. values) (slice_get t.rows row) []
