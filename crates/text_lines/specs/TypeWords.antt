-- The types that words name in a DDS and a DAS (DAP 2.0, base types).
use Rattle.std.specs.Prelude.{List, [], ◌∷◌, ℕ, Option, find}
use Rattle.std.specs.Str.{str_eq_ignore_ascii_case}
use Rattle.dap_types.specs.declared.declarations.BaseType.{BaseType}
use Rattle.dap_types.specs.declared.declarations.BaseType.TheVariants.{Byte, Int16, UInt16, Int32, UInt32, Float32, Float64, Text, Url}
use Rattle.dap_model.specs.Dds.{type_word}

-- the type that a word names, without regard to case
abbrev pub base_of_word : List ℕ → Option BaseType
base_of_word w = find (λ base. str_eq_ignore_ascii_case (type_word base) w) (Byte ∷ Int16 ∷ UInt16 ∷ Int32 ∷ UInt32 ∷ Float32 ∷ Float64 ∷ Text ∷ Url ∷ [])
