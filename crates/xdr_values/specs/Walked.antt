-- Where values stand in the bytes of a data response: each behind the one before it (RFC 4506; DAP 2.0, DODS).
-- What is behind them is told too.
use Rattle.std.specs.Prelude.{◌≡◌, ℕ, ◌+◌, List, [], ◌∷◌, ◌++◌, All}
use Rattle.std.specs.List.{AllZip, flat_map}
use Rattle.dap_types.specs.Model.{Member, Members, Tree, many, sizes}
use Rattle.dap_types.specs.declared.declarations.ArrayDecl.{ArrayDecl}
use Rattle.dap_types.specs.declared.declarations.BaseType.{BaseType}
use Rattle.dap_types.specs.declared.declarations.Column.{Column}
use Rattle.dap_types.specs.declared.values.Value.{Value}
use Rattle.dap_model.specs.Fits.{Fits, FitsAll, FitsArray, FitsRow, FitsScalar, IsOf, values_in}
use Rattle.dap_model.specs.Xdr.{array_fields, array_fields_of_each, bytes_of, cell_fields, fields, fields_all, mark, row_fields, value_fields, SpellsFields}
use Rattle.xdr_decode.specs.inner.Taken.{Spelt, elements_fields}

-- the value of a type stands in these bytes, which are its own
pub record IsValue (base : BaseType) (v : Value) (own : List ℕ) : Type 0 where
  pub is_of : IsOf base v
  pub spelled : SpellsFields (value_fields base v) own

-- it stands at the front of some bytes, and the rest behind it
pub record StandsValue (base : BaseType) (v : Value) (bytes rest : List ℕ) : Type 0 where
  pub is_of : IsOf base v
  pub spelt : Spelt (value_fields base v) bytes rest

-- so many elements of an array stand at the front of some bytes, and the rest behind them
pub record StandElements (base : BaseType) (vs : List Value) (bytes rest : List ℕ) : Type 0 where
  pub are_of : All (IsOf base) vs
  pub parts : bytes ≡ bytes_of (elements_fields base vs) ++ rest

-- an array stands there
pub record StandsArray (a : ArrayDecl) (t : Tree) (bytes rest : List ℕ) : Type 0 where
  pub fit : FitsArray a.base (sizes a) t
  pub spelt : Spelt (array_fields a.base (values_in t)) bytes rest

-- arrays, one after the other
pub record StandEach (arrays : List ArrayDecl) (ts : List Tree) (bytes rest : List ℕ) : Type 0 where
  pub fit : AllZip (λ a t. FitsArray a.base (sizes a) t) arrays ts
  pub spelt : Spelt (array_fields_of_each arrays ts) bytes rest

-- the cells of a row
pub record StandCells (columns : List Column) (cells : List Tree) (bytes rest : List ℕ) : Type 0 where
  pub fit : AllZip (λ c t. FitsScalar c.base t) columns cells
  pub spelt : Spelt (cell_fields columns cells) bytes rest

-- the rows of a Sequence, and the mark behind them
pub record StandRows (columns : List Column) (rows : List Tree) (bytes rest : List ℕ) : Type 0 where
  pub fit : All (FitsRow columns) rows
  pub spelt : Spelt (flat_map (row_fields columns) rows ++ mark 0xa5 ∷ []) bytes rest

-- a variable, and variables one after the other
pub record Stands (m : Member) (t : Tree) (bytes rest : List ℕ) : Type 0 where
  pub fit : Fits m t
  pub spelt : Spelt (fields m t) bytes rest

pub record StandAll (ms : Members) (ts : List Tree) (bytes rest : List ℕ) : Type 0 where
  pub fit : FitsAll ms ts
  pub spelt : Spelt (fields_all ms ts) bytes rest
