-- What a clause's constants of one kind say of a value of that kind.
use Rattle.std.proofs.Common.{◌≡◌, ℕ, ℤ, Bool, false, List, [], ◌∷◌, map, refl, ap}
use Rattle.std.specs.Prelude.{◌||◌}
use Rattle.std.specs.Cmp.Lexicographic.{slice_cmp}
use Rattle.std.specs.List.{list_any}
use Rattle.std.specs.Ordering.{int_cmp, nat_cmp}
use Rattle.std.specs.declared.cmp.Ordering.{Ordering}
use Rattle.dap_model.specs.Rows.{Selection, holds}
use Rattle.dap_types.specs.declared.values.Value.TheVariants as values
use Rattle.sequence_select.specs.Operands.{numbers_in, operand_value, texts_in}
use Rattle.sequence_select.specs.declared.constants.Operand.{Operand}
use Rattle.sequence_select.specs.declared.constants.Operand.TheVariants.{Whole, Text}

-- a selection by its parts
abbrev selected : ℕ → (Ordering → Bool) → List Operand → Selection
selected column relation operands = record { column = column; relation = relation; values = map operand_value operands }

pub number-holds : (column : ℕ) (relation : Ordering → Bool) (operands : List Operand) (a : ℤ) → holds (selected column relation operands) (values.Whole a) ≡ list_any (λ b. relation (int_cmp a b)) (numbers_in operands)
number-holds column relation [] a = refl
number-holds column relation (Whole z ∷ operands) a = ap (λ t. relation (int_cmp a z) || t) (number-holds column relation operands a)
number-holds column relation (Text bytes ∷ operands) a = number-holds column relation operands a

pub text-holds : (column : ℕ) (relation : Ordering → Bool) (operands : List Operand) (a : List ℕ) → holds (selected column relation operands) (values.Text a) ≡ list_any (λ b. relation (slice_cmp nat_cmp a b)) (texts_in operands)
text-holds column relation [] a = refl
text-holds column relation (Whole z ∷ operands) a = text-holds column relation operands a
text-holds column relation (Text bytes ∷ operands) a = ap (λ t. relation (slice_cmp nat_cmp a bytes) || t) (text-holds column relation operands a)

-- floats have no order
pub float-holds : (column : ℕ) (relation : Ordering → Bool) (operands : List Operand) (n : ℕ) → holds (selected column relation operands) (values.Bits32 n) ≡ false
float-holds column relation [] n = refl
float-holds column relation (Whole z ∷ operands) n = float-holds column relation operands n
float-holds column relation (Text bytes ∷ operands) n = float-holds column relation operands n

pub double-holds : (column : ℕ) (relation : Ordering → Bool) (operands : List Operand) (n : ℕ) → holds (selected column relation operands) (values.Bits64 n) ≡ false
double-holds column relation [] n = refl
double-holds column relation (Whole z ∷ operands) n = double-holds column relation operands n
double-holds column relation (Text bytes ∷ operands) n = double-holds column relation operands n
