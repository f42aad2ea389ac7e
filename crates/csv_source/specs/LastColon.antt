-- A header's field in the words of a reader: its type is the word behind its last `:` (this project's).
use Rattle.std.specs.Prelude.{◌≡◌, ◌⊎◌, ℕ, false, List, ◌∷◌, ◌++◌, ◌==◌}
use Rattle.std.specs.List.{list_any}
use Rattle.dap_model.specs.Dds.{type_word}
use Rattle.dap_types.specs.declared.declarations.BaseType.{BaseType}
use Rattle.dap_types.specs.declared.declarations.BaseType.TheVariants.{Text}
use Rattle.viable.specs.Characters.{byte}

-- these bytes stand before the last `:` of the field, and these behind it
pub record SplitsAtLastColon (field before behind : List ℕ) : Type 0 where
  pub parts : field ≡ before ++ byte ":" ∷ behind
  pub last : list_any (λ b. b == byte ":") behind ≡ false

-- behind it stands the word for this type, as it is printed
abbrev pub HasTypeWord : List ℕ → List ℕ → BaseType → Type 0
HasTypeWord field name base = SplitsAtLastColon field name (type_word base)

-- the name and the type of the column: what stands around that `:`, or the whole field and a String
-- where no type's word stands behind it
abbrev pub IsNameAndType : List ℕ → List ℕ → BaseType → Type 0
IsNameAndType field name base =
    HasTypeWord field name base
    ⊎ ((name ≡ field) × (base ≡ Text) × ((before : List ℕ) (other : BaseType) → ¬ (HasTypeWord field before other)))
