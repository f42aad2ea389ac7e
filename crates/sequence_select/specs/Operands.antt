-- The constants of a clause, and those of each kind.
use Rattle.std.specs.Prelude.{ℕ, ℤ, List, [], ◌∷◌}
use Rattle.std.specs.List.{flat_map}
use Rattle.dap_types.specs.declared.values.Value.{Value}
use Rattle.dap_types.specs.declared.values.Value.TheVariants as values
use Rattle.sequence_select.specs.declared.constants.Operand.{Operand}
use Rattle.sequence_select.specs.declared.constants.Operand.TheVariants.{Whole, Text}

abbrev pub operand_value : Operand → Value
operand_value (Whole z) = values.Whole z
operand_value (Text bytes) = values.Text bytes

abbrev pub number_in : Operand → List ℤ
number_in (Whole z) = z ∷ []
number_in (Text bytes) = []

abbrev pub text_in : Operand → List (List ℕ)
text_in (Whole z) = []
text_in (Text bytes) = bytes ∷ []

-- the constants of one kind, in order
abbrev pub numbers_in : List Operand → List ℤ
numbers_in operands = flat_map number_in operands

abbrev pub texts_in : List Operand → List (List ℕ)
texts_in operands = flat_map text_in operands
