-- What a clause and its selection say, in the words of a reader: a column of a Sequence is compared with
-- constants (DAP 2.0, constraint expressions: selections).
use Rattle.std.specs.Prelude.{◌≡◌, ℕ, ◌+◌, List, [], ◌∷◌, ◌++◌, Some, slice_get}
use Rattle.std.specs.List.{AllZip}
use Rattle.dap_model.specs.Rows.{Selection}
use Rattle.dap_types.specs.Model.{Dataset, sequence}
use Rattle.dap_types.specs.WellFormed.{member_at, number_of}
use Rattle.dap_types.specs.declared.declarations.Column.{Column}
use Rattle.dap_types.specs.declared.values.Value.{Value}
use Rattle.dap_types.specs.declared.values.Value.TheVariants as values
use Rattle.constraint_parse.specs.declared.constraint.Number.TheVariants.{Small, Big}
use Rattle.constraint_parse.specs.declared.constraint.Op.{Op}
use Rattle.constraint_parse.specs.declared.constraint.Constant.{Constant}
use Rattle.constraint_parse.specs.declared.constraint.Constant.TheVariants.{Whole, Text, Other}
use Rattle.constraint_parse.specs.declared.constraint.Clause.{Clause}
use Rattle.constraint_parse.specs.declared.constraint.Clause.TheVariants.{Compare}
use Rattle.sequence_select.specs.Selections.{relation_of}

-- a constant is this value: a number of at most 128 bits, or a text
abbrev pub IsValue : Constant → Value → Type 0
IsValue (Whole (Small z)) v = v ≡ values.Whole z
IsValue (Whole Big) v = ⊥
IsValue (Text bytes) v = v ≡ values.Text bytes
IsValue Other v = ⊥

-- the member with this path and number is a column of a Sequence: its path is that of the Sequence and
-- its own name, and the numbers of columns follow that of their Sequence
pub record IsColumn (d : Dataset) (path : List (List ℕ)) (number : ℕ) : Type 0 where
  pub whole : List (List ℕ)
  pub whole_number : ℕ
  pub name : List ℕ
  pub columns : List Column
  pub place : ℕ
  pub column : Column
  pub whole_has : number_of d whole ≡ Some whole_number
  pub whole_is : member_at d whole_number ≡ Some (sequence name columns)
  pub column_is : slice_get columns place ≡ Some column
  pub path_is : path ≡ whole ++ column.name ∷ []
  pub number_is : number ≡ whole_number + 1 + place

-- the selection says what the clause says
pub record IsSelectionOf (d : Dataset) (clause : Clause) (s : Selection) : Type 0 where
  pub path : List (List ℕ)
  pub op : Op
  pub constants : List Constant
  pub parts : clause ≡ Compare path op constants
  pub column : IsColumn d path s.column
  pub relation : s.relation ≡ relation_of op
  pub values : AllZip IsValue constants s.values
