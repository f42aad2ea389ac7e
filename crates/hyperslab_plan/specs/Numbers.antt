-- The bytes of a number in a file (netCDF classic format, external types) and as XDR (RFC 4506; DAP 2.0
-- packs the bytes of an array).
use Rattle.std.specs.Prelude.{ℕ, ◌≡◌, IsTrue}
use Rattle.dap_types.specs.declared.declarations.BaseType.{BaseType}
use Rattle.dap_types.specs.declared.declarations.BaseType.TheVariants.{Byte, Int16, UInt16, Float64}
use Rattle.dap_model.specs.Laws.{element_width}
pub use Rattle.dap_model.specs.Laws.{is_number}

-- the bytes of a number in a file
abbrev pub number_size : BaseType → ℕ
number_size Byte = 1
number_size Int16 = 2
number_size UInt16 = 2
number_size Float64 = 8
number_size base = 4

-- an element of the type has so many bytes in a file; a text has any number
abbrev pub HasSize : BaseType → ℕ → Type 0
HasSize base size = IsTrue (is_number base) → size ≡ number_size base

-- the bytes of an element's XDR form in an array of numbers; 1 for a text
abbrev pub width_of : BaseType → ℕ
width_of base = element_width base
