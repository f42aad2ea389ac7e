-- The cell that a table lends.
use Rattle.std.proofs.Common.{◌≡◌, ◌≤◌, ◌<◌, ◌+◌, ◌*◌, ◌^◌, ℕ, true, List, Some, length, refl, arith}
use Rattle.std.specs.Prelude.{slice_get, option_and_then}
use Rattle.dap_model.specs.Fits.{IsOf}
use Rattle.dap_types.specs.declared.declarations.BaseType.{BaseType}
use Rattle.dap_types.specs.declared.declarations.BaseType.TheVariants.{Byte, Int16, UInt16, Int32, UInt32, Float32, Float64, Text, Url}
use Rattle.dap_types.specs.declared.declarations.Column.{Column}
use Rattle.dap_types.specs.declared.values.Value.TheVariants as values
use Rattle.csv_source.specs.Cells.{cell_value, is_cell, is_whole, whole_of}
use Rattle.csv_source.specs.inner.Held.{IsHeld, fields_in, held_rows}
use Rattle.csv_source.proofs.KeptFields.{field-short, fields-length, index-there}
use Rattle.csv_source.proofs.Rows.{held-cell, held-count}
use Rattle.csv_source.proofs.Wholes.{bits-small, whole-fits}

-- a column of whole numbers: what its cells are, and their values
pub whole-cell : (base : BaseType) (cell : List ℕ) → (base ≡ Float32 → ⊥) → (base ≡ Float64 → ⊥) → (base ≡ Text → ⊥) → (base ≡ Url → ⊥) → is_cell base cell ≡ true
    → (is_whole base cell ≡ true) × (cell_value base cell ≡ values.Whole (whole_of cell)) × IsOf base (values.Whole (whole_of cell))
whole-cell Byte cell f d t u is = (is, refl, whole-fits Byte cell is)
whole-cell Int16 cell f d t u is = (is, refl, whole-fits Int16 cell is)
whole-cell UInt16 cell f d t u is = (is, refl, whole-fits UInt16 cell is)
whole-cell Int32 cell f d t u is = (is, refl, whole-fits Int32 cell is)
whole-cell UInt32 cell f d t u is = (is, refl, whole-fits UInt32 cell is)
whole-cell Float32 cell f d t u is = absurd (f refl)
whole-cell Float64 cell f d t u is = absurd (d refl)
whole-cell Text cell f d t u is = absurd (t refl)
whole-cell Url cell f d t u is = absurd (u refl)

-- a cell's value is one of its column's type
pub cell-fits : (base : BaseType) (cell : List ℕ) → is_cell base cell ≡ true → length cell < 2 ^ 31 → IsOf base (cell_value base cell)
cell-fits Byte cell is short = whole-fits Byte cell is
cell-fits Int16 cell is short = whole-fits Int16 cell is
cell-fits UInt16 cell is short = whole-fits UInt16 cell is
cell-fits Int32 cell is short = whole-fits Int32 cell is
cell-fits UInt32 cell is short = whole-fits UInt32 cell is
cell-fits Float32 cell is short = bits-small 8 cell is
cell-fits Float64 cell is short = bits-small 16 cell is
cell-fits Text cell is short = short
cell-fits Url cell is short = short

-- the place of a cell is a number of 64 bits
pub row_fits : (row width : ℕ) → row < 4294967296 → width ≤ 1024 → row * width ≤ 4398046511104
row_fits row width r w = grind (arith, r, w)

-- the cell at a row and a column
pub held-read : (columns : List Column) (rows : ℕ) (ends text : List ℕ) (row column : ℕ) (c : Column) → IsHeld columns rows ends text
    → row < length (held_rows columns rows (fields_in ends text)) → slice_get columns column ≡ Some c
    → (field : List ℕ) × (slice_get (fields_in ends text) (row * length columns + column) ≡ Some field) × (is_cell c.base field ≡ true) × (length field < 2 ^ 31)
    × (row * length columns + column < length ends)
    × (option_and_then (λ values. slice_get values column) (slice_get (held_rows columns rows (fields_in ends text)) row) ≡ Some (cell_value c.base field))
held-read columns rows ends text row column c held lt is =
    let fields = fields_in ends text in
    let at = row * length columns + column in
    let (field, there, good, value) = held-cell columns rows fields row column c held.are_rows (omega (arith, lt, held-count columns rows fields)) is in
    let inside : at < length ends = omega (arith, index-there fields at field there, fields-length 0 ends text) in
    let short = field-short ends text field at held.are_ends there in
    (field, there, good, omega (arith, short, held.short), inside, value)
