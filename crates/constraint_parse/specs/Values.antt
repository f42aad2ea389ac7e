-- What the trees stand for.
use Rattle.std.specs.Prelude.{◌≡◌, ℕ, ◌^◌, pos, neg_ℤ, ◌&&◌, List, [], ◌∷◌, ◌++◌, map, ◌==◌, nat_lt, nat_le, if◌then◌else◌, Option, Some, None}
use Rattle.viable.specs.Characters.{byte}
use Rattle.viable.specs.Numerals.{decimal}
use Rattle.viable.specs.Quoted.{quoted_value}
use Rattle.dap_types.specs.Names.{constraint_id}
use Rattle.constraint_parse.specs.Language.{Operator, equal, not_equal, less, less_equal, greater, greater_equal, matches, SlabTree, index, range, strided, StepTree, ItemTree, path, call, ValueTree, text, bare, ClauseTree, compare, among, call_clause, ItemsTree, no_items, some_items, ConstraintTree, is_digit, IsTextOf}
use Rattle.viable.specs.Runs.{is_run}
use Rattle.constraint_parse.specs.declared.constraint.Number.{Number}
use Rattle.constraint_parse.specs.declared.constraint.Number.TheVariants.{Small, Big}
use Rattle.constraint_parse.specs.declared.constraint.RawSlab.{RawSlab}
use Rattle.constraint_parse.specs.declared.constraint.Step.{Step}
use Rattle.constraint_parse.specs.declared.constraint.Item.{Item}
use Rattle.constraint_parse.specs.declared.constraint.Item.TheVariants.{Path, Call}
use Rattle.constraint_parse.specs.declared.constraint.Op.{Op}
use Rattle.constraint_parse.specs.declared.constraint.Op.TheVariants as ops
use Rattle.constraint_parse.specs.declared.constraint.Constant.{Constant}
use Rattle.constraint_parse.specs.declared.constraint.Constant.TheVariants as constants
use Rattle.constraint_parse.specs.declared.constraint.Clause.{Clause}
use Rattle.constraint_parse.specs.declared.constraint.Clause.TheVariants as clauses
use Rattle.constraint_parse.specs.declared.constraint.Constraint.{Constraint}

-- up to 2^127 - 1
abbrev pub number_value : List ℕ → Number
number_value digits = if nat_lt (decimal digits) (2 ^ 127) then Small (pos (decimal digits)) else Big

-- down to -2^127
abbrev pub negative_value : List ℕ → Number
negative_value digits = if nat_le (decimal digits) (2 ^ 127) then Small (neg_ℤ (pos (decimal digits))) else Big

-- a number with a sign, or another word
abbrev pub signed_value : List ℕ → Constant
signed_value [] = constants.Other
signed_value (sign ∷ digits) =
    if sign == byte "+" && is_run is_digit digits then constants.Whole (number_value digits)
    else if sign == byte "-" && is_run is_digit digits then constants.Whole (negative_value digits)
    else constants.Other

abbrev pub word_value : List ℕ → Constant
word_value word = if is_run is_digit word then constants.Whole (number_value word) else signed_value word

abbrev pub value_constant : ValueTree → Constant
value_constant (text pieces) = constants.Text (quoted_value pieces)
value_constant (bare word) = word_value word

abbrev pub slab_value : SlabTree → RawSlab
slab_value (index a) = record { first = number_value a; middle = None; last = None }
slab_value (range a b) = record { first = number_value a; middle = None; last = Some (number_value b) }
slab_value (strided a s b) = record { first = number_value a; middle = Some (number_value s); last = Some (number_value b) }

abbrev pub step_value : StepTree → Step
step_value s = record { name = constraint_id s.label; slabs = map slab_value s.slabs }

abbrev pub item_value : ItemTree → Item
item_value (path front last) = Path (map step_value (front ++ last ∷ []))
item_value (call label bytes) = Call

-- the clause with this path, operator and values
abbrev pub compared_value : List (List ℕ) → Operator → List Constant → Clause
compared_value labels equal values = clauses.Compare (map constraint_id labels) ops.Equal values
compared_value labels not_equal values = clauses.Compare (map constraint_id labels) ops.NotEqual values
compared_value labels less values = clauses.Compare (map constraint_id labels) ops.Less values
compared_value labels less_equal values = clauses.Compare (map constraint_id labels) ops.LessEqual values
compared_value labels greater values = clauses.Compare (map constraint_id labels) ops.Greater values
compared_value labels greater_equal values = clauses.Compare (map constraint_id labels) ops.GreaterEqual values
compared_value labels matches values = clauses.Match

abbrev pub clause_value : ClauseTree → Clause
clause_value (compare front last o value) = compared_value (front ++ last ∷ []) o (value_constant value ∷ [])
clause_value (among front last o values value) = compared_value (front ++ last ∷ []) o (map value_constant (values ++ value ∷ []))
clause_value (call_clause label bytes) = clauses.Call

abbrev pub items_value : ItemsTree → List Item
items_value no_items = []
items_value (some_items front last) = map item_value (front ++ last ∷ [])

abbrev pub constraint_value : ConstraintTree → Constraint
constraint_value t = record { items = items_value t.items; clauses = map clause_value t.clauses }

-- the text spells the constraint
abbrev pub Spells : List ℕ → Constraint → Type 0
Spells bytes constraint = (tree : ConstraintTree) × IsTextOf bytes tree × (constraint ≡ constraint_value tree)

-- the operator, or none for a match
abbrev pub operator_value : Operator → Option Op
operator_value equal = Some ops.Equal
operator_value not_equal = Some ops.NotEqual
operator_value less = Some ops.Less
operator_value less_equal = Some ops.LessEqual
operator_value greater = Some ops.Greater
operator_value greater_equal = Some ops.GreaterEqual
operator_value matches = None

-- the clause of a path, an operator and values
abbrev pub comparison_value : List (List ℕ) → Option Op → List Constant → Clause
comparison_value labels (Some op) values = clauses.Compare labels op values
comparison_value labels None values = clauses.Match
