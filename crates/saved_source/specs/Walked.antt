-- Where the parts of a saved response stand in its bytes, by the marks that say what goes out of them (RFC 4506; DAP
-- 2.0, DODS), and what goes out.
use Rattle.std.specs.Prelude.{◌≡◌, ℕ, ◌+◌, ◌<◌, ◌^◌, List, [], ◌∷◌, ◌++◌, filter, if◌then◌else◌}
use Rattle.std.specs.List.{AllZip, flat_map}
use Rattle.std.specs.Option.{option_map_or}
use Rattle.dap_types.specs.Model.{Member, Members, Tree, many, trees_of, kids, product, sizes}
use Rattle.dap_types.specs.declared.declarations.ArrayDecl.{ArrayDecl}
use Rattle.dap_types.specs.declared.declarations.BaseType.{BaseType}
use Rattle.dap_types.specs.declared.declarations.Column.{Column}
use Rattle.dap_types.specs.declared.slabs.Slab.{Slab}
use Rattle.dap_types.specs.declared.values.Value.{Value}
use Rattle.dap_model.specs.Cutting.{AreWithin, cut}
use Rattle.dap_model.specs.Filter.{Marks, Keeps, marked, unchanged, SuitsAll, SuitsMember, SuitEach}
use Rattle.dap_model.specs.Fits.{Fits, FitsAll, FitsArray, values_in}
use Rattle.dap_model.specs.Xdr.{Field, array_fields, array_fields_of_each, bytes_of, cell_fields, fields, fields_all, mark, value_fields}
use Rattle.xdr_decode.specs.inner.Taken.{Spelt, elements_fields}

-- the elements of an array of some sizes stand there, and hyperslabs pick within it
pub record StandsNested (base : BaseType) (ns : List ℕ) (slabs : List Slab) (t : Tree) (bytes rest : List ℕ) : Type 0 where
  pub fit : FitsArray base ns t
  pub within : AreWithin slabs ns
  pub few : product ns < 2 ^ 32
  pub parts : bytes ≡ bytes_of (elements_fields base (values_in t)) ++ rest

-- the arrays of a Grid stand there, the first of which has number n
pub record StandArrays (marks : Marks) (n : ℕ) (arrays : List ArrayDecl) (ts : List Tree) (bytes rest : List ℕ) : Type 0 where
  pub fit : AllZip (λ a t. FitsArray a.base (sizes a) t) arrays ts
  pub suit : SuitEach marks n arrays
  pub spelt : Spelt (array_fields_of_each arrays ts) bytes rest

-- a variable, which is member n, and variables from member n on
pub record StandsMember (marks : Marks) (n : ℕ) (m : Member) (t : Tree) (bytes rest : List ℕ) : Type 0 where
  pub fit : Fits m t
  pub suits : SuitsMember marks n m
  pub spelt : Spelt (fields m t) bytes rest

pub record StandMembers (marks : Marks) (n : ℕ) (ms : Members) (ts : List Tree) (bytes rest : List ℕ) : Type 0 where
  pub fit : FitsAll ms ts
  pub suits : SuitsAll marks n ms
  pub spelt : Spelt (fields_all ms ts) bytes rest

-- what goes out of a value that is member n, and of the cells of a row, the first of which is member n
abbrev pub value_sent : Marks → ℕ → BaseType → Value → List Field
value_sent marks n base v = option_map_or (λ slabs. value_fields base v) (marks n) []

abbrev pub cells_sent : Marks → ℕ → List Column → List Tree → List Field
cells_sent marks n columns cells = cell_fields (marked unchanged marks n columns) (marked unchanged marks n cells)

-- what goes out of the rows of a Sequence that is member n: of the kept rows the marked cells, and the mark
-- behind them
abbrev pub row_sent : Marks → ℕ → List Column → Tree → List Field
row_sent marks n columns row = mark 0x5a ∷ cells_sent marks (n + 1) columns (kids row)

abbrev pub rows_sent : Marks → Keeps → ℕ → List Column → List Tree → List Field
rows_sent marks keeps n columns rows = flat_map (row_sent marks n columns) (filter (keeps n) rows) ++ mark 0xa5 ∷ []

-- a row, where it is kept
abbrev pub row_if_kept : Marks → Keeps → ℕ → List Column → List Tree → List Field
row_if_kept marks keeps n columns cells = if keeps n (many (trees_of cells)) then row_sent marks n columns (many (trees_of cells)) else []

-- what goes out of the array that is member n
abbrev pub array_sent : Marks → ℕ → ArrayDecl → Tree → List Field
array_sent marks n a t = option_map_or (λ slabs. array_fields a.base (values_in (cut slabs t))) (marks n) []
