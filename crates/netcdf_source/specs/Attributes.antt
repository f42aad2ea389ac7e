-- The attributes of a netCDF classic file (DAP 2.0, DAS; netCDF classic format, attr; which type
-- stands for which is this project's).
use Rattle.std.specs.Prelude.{ℕ, ◌/◌, List, [], ◌∷◌, ◌++◌, length, map, filter, codes, ◌==◌, if◌then◌else◌}
use Rattle.std.specs.Fmt.{signed_decimal}
use Rattle.std.specs.Simd.{first_chunks}
use Rattle.dap_model.specs.Shown.{hex}
use Rattle.dap_types.specs.Names.{file_id}
use Rattle.dap_types.specs.declared.declarations.BaseType.{BaseType}
use Rattle.dap_types.specs.declared.declarations.BaseType.TheVariants as base
use Rattle.dap_types.specs.declared.values.Value.{Value}
use Rattle.dap_types.specs.declared.values.Value.TheVariants.{Whole, Text, Bits32, Bits64}
use Rattle.das_text.specs.Model.{Attributes, Entry, attribute, container, entries_of}
use Rattle.das_text.specs.declared.entries.Attribute as das
use Rattle.das_text.specs.declared.entries.Word.{Word}
use Rattle.das_text.specs.declared.entries.Word.TheVariants.{Plain, Quoted}
use Rattle.netcdf_source.specs.Mapping.{is_offered}
use Rattle.netcdf_source.specs.Types.{size_of}
use Rattle.netcdf_source.specs.Values.{value_of}
use Rattle.netcdf_source.specs.declared.external_type.ExternalType.{ExternalType}
use Rattle.netcdf_source.specs.declared.external_type.ExternalType.TheVariants.{Byte, Char, Short, Int, Float, Double, UByte, UShort, UInt, Int64, UInt64}
use Rattle.netcdf_source.specs.Attribute.{Attribute}
use Rattle.netcdf_source.specs.declared.header.Contents.{Contents}
use Rattle.netcdf_source.specs.declared.header.Variable.{Variable}

-- ---- values

-- bytes in whole pieces of n
unfoldable pub pieces : ℕ → List ℕ → List (List ℕ)
pieces n bytes = first_chunks n (length bytes / n) bytes

-- the type of an attribute's values: whole numbers of up to 32 bits keep theirs, all else is text
abbrev pub value_base : ExternalType → BaseType
value_base Byte = base.Byte
value_base Short = base.Int16
value_base Int = base.Int32
value_base Char = base.Text
value_base Float = base.Text
value_base Double = base.Text
value_base UByte = base.Byte
value_base UShort = base.UInt16
value_base UInt = base.UInt32
value_base Int64 = base.Text
value_base UInt64 = base.Text

-- a value as a word: a whole number in decimal digits, the bits of a float in hexadecimal ones
abbrev pub value_word : Value → Word
value_word (Whole n) = Plain (signed_decimal n)
value_word (Text text) = Quoted text
value_word (Bits32 bits) = Quoted (codes "0x" ++ hex 8 bits)
value_word (Bits64 bits) = Quoted (codes "0x" ++ hex 16 bits)

-- the word for the value that stands in some bytes
abbrev pub word_of : ExternalType → List ℕ → Word
word_of t bytes = value_word (value_of t bytes)

-- the bytes of each value: all chars are one text
abbrev pub value_bytes : ExternalType → List ℕ → List (List ℕ)
value_bytes Char bytes = bytes ∷ []
value_bytes t bytes = pieces (size_of t) bytes

-- ---- attributes

abbrev pub words_of : ExternalType → List ℕ → List Word
words_of t bytes = map (word_of t) (value_bytes t bytes)

-- an attribute without values has an empty text
unfoldable pub attribute_of : Attribute → das.Attribute
attribute_of a =
    if length a.values == 0 then record { base = base.Text; name = file_id a.name; values = Quoted [] ∷ [] }
    else record { base = value_base a.external_type; name = file_id a.name; values = words_of a.external_type a.values }

abbrev pub entry_of : Attribute → Entry
entry_of a = attribute (attribute_of a)

abbrev pub container_of : List ℕ → List Attribute → Entry
container_of name attributes = container name (entries_of (map entry_of attributes))

abbrev pub variable_container : Variable → Entry
variable_container v = container_of (file_id v.name) v.attributes

-- a container for each variable that is offered, and behind them that of the file
abbrev pub attributes_of : Contents → Attributes
attributes_of c = record {
  containers = entries_of (map variable_container (filter (is_offered c) c.variables) ++ container_of (codes "NC_GLOBAL") c.attributes ∷ []);
}
