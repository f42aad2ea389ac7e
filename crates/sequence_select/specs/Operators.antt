-- The six operators of a clause as relations of two values (DAP 2.0, constraint expressions: relational
-- operators). That texts are ordered by their bytes, and floats not at all, is this project's.
use Rattle.std.specs.Prelude.{◌≡◌, ◌≢◌, ◌<◌, ◌<ℤ◌, ◌⊎◌, ℕ, List, ◌∷◌, ◌++◌}
use Rattle.dap_types.specs.declared.values.Value.{Value}
use Rattle.dap_types.specs.declared.values.Value.TheVariants as values
use Rattle.constraint_parse.specs.declared.constraint.Op.{Op}
use Rattle.constraint_parse.specs.declared.constraint.Op.TheVariants.{Equal, NotEqual, Less, LessEqual, Greater, GreaterEqual}

-- one text is another's front, and shorter
pub record IsProperFront (a b : List ℕ) : Type 0 where
  pub next : ℕ
  pub rest : List ℕ
  pub parts : b ≡ a ++ next ∷ rest

-- at the first place where the two differ, its byte is the lesser
pub record IsLesserAtFirst (a b : List ℕ) : Type 0 where
  pub front : List ℕ
  pub lesser : ℕ
  pub greater : ℕ
  pub rest : List ℕ
  pub other_rest : List ℕ
  pub parts : a ≡ front ++ lesser ∷ rest
  pub other_parts : b ≡ front ++ greater ∷ other_rest
  pub differ : lesser < greater

-- one text stands before another, by their bytes
abbrev pub IsBefore : List ℕ → List ℕ → Type 0
IsBefore a b = IsProperFront a b ⊎ IsLesserAtFirst a b

-- an operator's relation, where values are ordered by `IsBelow`
abbrev pub Relates : {X : Type 0} → (X → X → Type 0) → Op → X → X → Type 0
Relates IsBelow Equal a b = a ≡ b
Relates IsBelow NotEqual a b = a ≢ b
Relates IsBelow Less a b = IsBelow a b
Relates IsBelow LessEqual a b = IsBelow a b ⊎ (a ≡ b)
Relates IsBelow Greater a b = IsBelow b a
Relates IsBelow GreaterEqual a b = IsBelow b a ⊎ (a ≡ b)

-- one value stands in an operator's relation to another: whole numbers as numbers, texts by their bytes
abbrev pub Stands : Op → Value → Value → Type 0
Stands op (values.Whole a) (values.Whole b) = Relates ◌<ℤ◌ op a b
Stands op (values.Text a) (values.Text b) = Relates IsBefore op a b
Stands op v w = ⊥
