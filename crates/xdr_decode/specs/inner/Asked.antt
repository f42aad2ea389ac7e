-- What the next field has to be, and what stands there, as the code has them.
use Rattle.std.specs.Prelude.{◌≡◌, ℕ, ◌<◌, ◌^◌, ⊤, List, min, Some}
use Rattle.dap_types.specs.declared.declarations.BaseType.{BaseType}
use Rattle.dap_types.specs.declared.declarations.BaseType.TheVariants.{Byte, Float64}
use Rattle.dap_types.specs.declared.values.Value.TheVariants as values
use Rattle.dap_model.specs.Received.{Fault}
use Rattle.dap_model.specs.Xdr.{Field, count, number, packed, filler, size, padding, mark, SpellsField, fill}
use Rattle.xdr_decode.specs.Verdict.{kind_of}
use Rattle.reply_faults.specs.declared.bad.Bad.{Bad}
use Rattle.xdr_fields.specs.Wants.{Want, a_count, a_value, a_byte, a_filler, a_padding, rows, Goes, fault_in}
use Rattle.xdr_decode.specs.declared.field.Ask.{Ask}
use Rattle.xdr_decode.specs.declared.field.Ask.TheVariants.{Count, Value, Packed, Filler, Padding, Mark}
use Rattle.xdr_decode.specs.declared.field.Token.{Token}
use Rattle.xdr_decode.specs.declared.field.Token.TheVariants as token

-- how many bytes are asked for
abbrev pub width_of : Ask → ℕ
width_of (Value Float64) = 8
width_of Packed = 1
width_of (Filler k) = k
width_of (Padding k) = k
width_of ask = 4

-- what an element of an array asks for
abbrev pub element_ask : BaseType → Ask
element_ask Byte = Packed
element_ask base = Value base

-- a value that is an element, or the length of one
abbrev pub IsElement : Ask → Type 0
IsElement (Value base) = ⊤
IsElement Packed = ⊤
IsElement ask = ⊥

-- the code asks for this
abbrev pub Asks : Ask → Want → Type 0
Asks (Count k) (a_count n) = k ≡ min n (2 ^ 32)
Asks (Value base) (a_value path b) = base ≡ b
Asks Packed (a_byte path) = ⊤
Asks (Filler k) (a_filler n) = k ≡ fill n
Asks (Padding k) (a_padding n) = k ≡ fill n
Asks Mark (rows above name columns row) = ⊤
Asks ask want = ⊥

-- the code has read this field
abbrev pub Is : Token → Field → Type 0
Is token.Count (count n) = n < 2 ^ 32
Is (token.Whole z) (number base v) = v ≡ values.Whole z
Is (token.Bits32 n) (number base v) = v ≡ values.Bits32 n
Is (token.Bits64 n) (number base v) = v ≡ values.Bits64 n
Is (token.Size n) (size m) = n ≡ m
Is (token.Whole z) (packed v) = v ≡ values.Whole z
Is token.Zeros (filler n) = ⊤
Is token.Zeros (padding n) = ⊤
Is token.Row (mark b) = b ≡ 0x5a
Is token.End (mark b) = b ≡ 0xa5
Is t f = ⊥

-- the bytes spell a field that may come next
abbrev pub IsGood : Want → List ℕ → Token → Type 0
IsGood want own t = (f : Field) × Goes want f × SpellsField f own × Is t f

-- they spell none
abbrev pub IsFaulty : Want → List ℕ → Bad → Type 0
IsFaulty want own kind = (fault : Fault) × (fault_in want ≡ Some fault) × (kind ≡ kind_of fault) × ((f : Field) → Goes want f → ¬ (SpellsField f own))
