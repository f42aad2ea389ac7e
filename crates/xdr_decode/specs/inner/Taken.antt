-- What is read of values that stand whole in memory, as trees, and why nothing is.
use Rattle.std.specs.Prelude.{◌≡◌, ℕ, ◌⊎◌, ⊤, List, [], ◌∷◌, ◌++◌, length, map}
use Rattle.std.specs.List.{flat_map}
use Rattle.dap_types.specs.declared.declarations.BaseType.{BaseType}
use Rattle.dap_types.specs.declared.declarations.BaseType.TheVariants.{Byte}
use Rattle.dap_types.specs.declared.declarations.Dim.{Dim}
use Rattle.dap_types.specs.declared.values.Value.{Value}
use Rattle.dap_model.specs.Xdr.{Field, packed, value_fields, SpellsFields}
use Rattle.reply_faults.specs.declared.bad.Bad.TheVariants.{Cut}
use Rattle.xdr_decode.specs.declared.field.Token.{Token}
use Rattle.xdr_decode.specs.declared.values.Stop.{Stop}
use Rattle.xdr_decode.specs.declared.values.Stop.TheVariants.{Wrong, Memory}
use Rattle.xdr_decode.specs.inner.Asked.{IsGood}
use Rattle.xdr_decode.specs.Verdict.{kind_of}
use Rattle.xdr_fields.specs.inner.Reached.{IsCut, IsSpoilt}
use Rattle.xdr_fields.specs.Wants.{Want, a_byte, a_value}

-- the bytes spell these fields, and then go on with the rest
abbrev pub Spelt : List Field → List ℕ → List ℕ → Type 0
Spelt fs bytes rest = (own : List ℕ) × (bytes ≡ own ++ rest) × SpellsFields fs own

-- the field that comes first was read
abbrev pub IsTaken : Want → Token → List ℕ → List ℕ → Type 0
IsTaken w t bytes rest = (own : List ℕ) × (bytes ≡ own ++ rest) × IsGood w own t

-- what is to come cannot be read from the bytes: they end inside a field, or one is bad, before whose end
-- and that of the bytes behind it stand so many. Want of memory says nothing
abbrev pub Stops : List Want → List ℕ → Stop → Type 0
Stops ws bytes (Wrong kind left) =
    (IsCut ws bytes × (kind ≡ Cut) × (left ≡ 0))
    ⊎ ((spoilt : IsSpoilt ws bytes) × (kind ≡ kind_of spoilt.fault) × (left ≡ length (spoilt.own ++ spoilt.rest)))
Stops ws bytes Memory = ⊤

-- an element of an array
abbrev pub element_want : BaseType → List ℕ → Want
element_want Byte = a_byte
element_want base = λ path. a_value path base

abbrev pub element_fields : BaseType → Value → List Field
element_fields Byte = λ v. packed v ∷ []
element_fields base = value_fields base

abbrev pub elements_fields : BaseType → List Value → List Field
elements_fields base vs = flat_map (element_fields base) vs

abbrev pub sizes_of : List Dim → List ℕ
sizes_of dims = map (λ dim. dim.size) dims
