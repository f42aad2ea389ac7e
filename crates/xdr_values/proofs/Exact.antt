-- Fields that have one spelling: all but a scalar Byte.
use Rattle.std.proofs.Common.{◌≡◌, ℕ, List, [], ◌∷◌, ◌++◌, ap, ◌∙◌}
use Rattle.std.specs.Prelude.{⊤}
use Rattle.dap_types.specs.declared.declarations.BaseType.{BaseType}
use Rattle.dap_types.specs.declared.declarations.BaseType.TheVariants.{Byte, Int16, UInt16, Int32, UInt32, Float32, Float64, Text, Url}
use Rattle.dap_types.specs.declared.values.Value.{Value}
use Rattle.dap_types.specs.declared.values.Value.TheVariants as values
use Rattle.dap_model.specs.Xdr.{Field, count, number, packed, filler, size, text, padding, mark, field_bytes, bytes_of, value_fields, SpellsField, SpellsFields}
use Rattle.xdr_decode.specs.inner.Taken.{element_fields, elements_fields}

abbrev pub Wide : BaseType → Type 0
Wide Byte = ⊥
Wide base = ⊤

abbrev pub Single : Field → Type 0
Single (number base v) = Wide base
Single f = ⊤

number_exact : (base : BaseType) (v : Value) (bs : List ℕ) → Wide base → SpellsField (number base v) bs → bs ≡ field_bytes (number base v)
number_exact Byte v bs wide s = absurd wide
number_exact Int16 v bs wide s = s
number_exact UInt16 v bs wide s = s
number_exact Int32 v bs wide s = s
number_exact UInt32 v bs wide s = s
number_exact Float32 v bs wide s = s
number_exact Float64 v bs wide s = s
number_exact Text v bs wide s = s
number_exact Url v bs wide s = s

pub field_exact : (f : Field) (bs : List ℕ) → Single f → SpellsField f bs → bs ≡ field_bytes f
unfolding field_bytes
field_exact (count n) bs one s = s.1
field_exact (number base v) bs one s = number_exact base v bs one s
field_exact (packed v) bs one s = s
field_exact (filler n) bs one s = s
field_exact (size n) bs one s = s
field_exact (text t) bs one s = s
field_exact (padding n) bs one s = s
field_exact (mark b) bs one s = s

abbrev pub AllSingle : List Field → Type 0
AllSingle [] = ⊤
AllSingle (f ∷ fs) = Single f × AllSingle fs

pub single-append : (fs gs : List Field) → AllSingle fs → AllSingle gs → AllSingle (fs ++ gs)
single-append [] gs one two = two
single-append (f ∷ fs) gs one two = (one.0, single-append fs gs one.1 two)

pub fields_exact : (fs : List Field) (bs : List ℕ) → AllSingle fs → SpellsFields fs bs → bs ≡ bytes_of fs
unfolding bytes_of
fields_exact [] bs one s = s
fields_exact (f ∷ fs) bs one (x, y, parts, first, rest) =
    parts ∙ ap (λ l. l ++ y) (field_exact f x one.0 first) ∙ ap (λ l. field_bytes f ++ l) (fields_exact fs y one.1 rest)

-- the value of a type that is no Byte, and elements of arrays of any type
pub value_single : (base : BaseType) (v : Value) → Wide base → AllSingle (value_fields base v)
value_single base (values.Text bytes) wide = (tt, (tt, (tt, tt)))
value_single base (values.Whole z) wide = (wide, tt)
value_single base (values.Bits32 n) wide = (wide, tt)
value_single base (values.Bits64 n) wide = (wide, tt)

pub element_single : (base : BaseType) (v : Value) → AllSingle (element_fields base v)
element_single Byte v = (tt, tt)
element_single Int16 v = value_single Int16 v tt
element_single UInt16 v = value_single UInt16 v tt
element_single Int32 v = value_single Int32 v tt
element_single UInt32 v = value_single UInt32 v tt
element_single Float32 v = value_single Float32 v tt
element_single Float64 v = value_single Float64 v tt
element_single Text v = value_single Text v tt
element_single Url v = value_single Url v tt

pub elements_single : (base : BaseType) (vs : List Value) → AllSingle (elements_fields base vs)
elements_single base [] = tt
elements_single base (v ∷ vs) = single-append (element_fields base v) (elements_fields base vs) (element_single base v) (elements_single base vs)
