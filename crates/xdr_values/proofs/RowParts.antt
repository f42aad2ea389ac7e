-- Rows and cells of a Sequence in the bytes of a response.
use Rattle.std.proofs.Common.{◌≡◌, ℕ, ◌+◌, Bool, true, false, List, [], ◌∷◌, ◌++◌, length, refl, sym, ap, ◌∙◌, subst, append_assoc}
use Rattle.std.specs.Prelude.{◌==◌}
use Rattle.std.specs.List.{flat_map}
use Rattle.dap_types.specs.Model.{Tree, one, kids}
use Rattle.dap_types.specs.declared.declarations.Column.{Column}
use Rattle.dap_types.specs.declared.values.Value.{Value}
use Rattle.dap_model.proofs.Values.{all_first, all_rest}
use Rattle.dap_model.specs.Fits.{FitsRow, IsMany}
use Rattle.dap_model.specs.Xdr.{cell_fields, field_bytes, mark, row_fields, scalar_fields}
use Rattle.xdr_decode.specs.inner.Taken.{Spelt}
use Rattle.xdr_values.proofs.Variables.{scalar_stands}
use Rattle.xdr_values.proofs.Splitting.{spelt_none, spelt_one, spelt_split}
use Rattle.xdr_values.specs.Walked.{StandCells, StandRows, StandsValue}

-- ---- cells
pub record CellsLeft (columns : List Column) (left rest : List ℕ) : Type 0 where
  pub cells : List Tree
  pub stand : StandCells columns cells left rest

pub record CellFirst (c : Column) (columns : List Column) (cells : List Tree) (left rest : List ℕ) : Type 0 where
  pub value : Value
  pub others : List Tree
  pub mid : List ℕ
  pub cells_are : cells ≡ one value ∷ others
  pub first : StandsValue c.base value left mid
  pub behind : StandCells columns others mid rest

pub cell_first : (c : Column) (columns : List Column) (cells : List Tree) (left rest : List ℕ) → StandCells (c ∷ columns) cells left rest → CellFirst c columns cells left rest
cell_first c columns [] left rest st = absurd st.fit
cell_first c columns (t ∷ ts) left rest st =
    let b = spelt_split (scalar_fields c.base t) (cell_fields columns ts) left rest st.spelt in
    let s = scalar_stands c.base t left b.mid st.fit.0 b.before in
    record { value = s.value; others = ts; mid = b.mid; cells_are = ap (λ u. u ∷ ts) s.is; first = s.stands; behind = record { fit = st.fit.1; spelt = b.behind } }

pub cells_left_next : (c : Column) (columns : List Column) (left rest behind : List ℕ) → CellsLeft (c ∷ columns) left rest → ((v : Value) (r : List ℕ) → StandsValue c.base v left r → behind ≡ r) → CellsLeft columns behind rest
cells_left_next c columns left rest behind w rests =
    let f = cell_first c columns w.cells left rest w.stand in
    record { cells = f.others; stand = subst (λ l. StandCells columns f.others l rest) (sym (rests f.value f.mid f.first)) f.behind }

pub cells_none : (columns : List Column) (cells : List Tree) (left rest : List ℕ) → columns ≡ [] → StandCells columns cells left rest → left ≡ rest
cells_none columns cells left rest none st = go cells (subst (λ cs. StandCells cs cells left rest) none st)
  where
    go : (cells : List Tree) → StandCells [] cells left rest → left ≡ rest
    go [] st = spelt_none left rest st.spelt
    go (t ∷ ts) st = absurd st.fit

pub cells_left_end : (columns : List Column) (left rest : List ℕ) → columns ≡ [] → CellsLeft columns left rest → left ≡ rest
cells_left_end columns left rest none w = cells_none columns w.cells left rest none w.stand

-- ---- rows
pub record RowFirst (columns : List Column) (rows : List Tree) (left rest : List ℕ) : Type 0 where
  pub row : Tree
  pub others : List Tree
  pub bytes : List ℕ
  pub mid : List ℕ
  pub rows_are : rows ≡ row ∷ others
  pub is_many : IsMany row
  pub parts : left ≡ (0x5a ∷ 0 ∷ 0 ∷ 0 ∷ []) ++ bytes
  pub first : StandCells columns (kids row) bytes mid
  pub behind : StandRows columns others mid rest

mark_spelt : (b : ℕ) (bytes rest : List ℕ) → Spelt (mark b ∷ []) bytes rest → bytes ≡ (b ∷ 0 ∷ 0 ∷ 0 ∷ []) ++ rest
unfolding field_bytes
mark_spelt b bytes rest s = let (own, is, exact) = spelt_one (mark b) bytes rest s in is ∙ ap (λ l. l ++ rest) exact

row_first : (columns : List Column) (row : Tree) (rows : List Tree) (left rest : List ℕ) → StandRows columns (row ∷ rows) left rest → RowFirst columns (row ∷ rows) left rest
row_first columns row rows left rest st =
    let fit = all_first (FitsRow columns) row rows st.fit in
    let b = spelt_split (row_fields columns row) (flat_map (row_fields columns) rows ++ mark 0xa5 ∷ []) left rest (subst (λ fs. Spelt fs left rest) (append_assoc (row_fields columns row) (flat_map (row_fields columns) rows) (mark 0xa5 ∷ [])) st.spelt) in
    let m = spelt_split (mark 0x5a ∷ []) (cell_fields columns (kids row)) left b.mid b.before in
    record {
      row = row;
      others = rows;
      bytes = m.mid;
      mid = b.mid;
      rows_are = refl;
      is_many = fit.0;
      parts = mark_spelt 0x5a left m.mid m.before;
      first = record { fit = fit.1; spelt = m.behind };
      behind = record { fit = all_rest (FitsRow columns) row rows st.fit; spelt = b.behind };
    }

rows_none : (columns : List Column) (left rest : List ℕ) → StandRows columns [] left rest → left ≡ (0xa5 ∷ 0 ∷ 0 ∷ 0 ∷ []) ++ rest
rows_none columns left rest st = mark_spelt 0xa5 left rest st.spelt

-- what the first byte tells
abbrev pub TellsRow : List ℕ → Bool → Type 0
TellsRow left is = (b : ℕ) (more : List ℕ) → left ≡ b ∷ more → is ≡ (b == 0x5a)

pub is_first : (columns : List Column) (rows : List Tree) (left rest : List ℕ) (is : Bool) → TellsRow left is → is ≡ true → StandRows columns rows left rest → RowFirst columns rows left rest
is_first columns [] left rest is tells is_yes st = let is_no : is ≡ false = tells 0xa5 _ (rows_none columns left rest st) in absurd (cc)
is_first columns (row ∷ rows) left rest is tells is_yes st = row_first columns row rows left rest st

pub is_last : (columns : List Column) (rows : List Tree) (left rest : List ℕ) (is : Bool) → TellsRow left is → is ≡ false → StandRows columns rows left rest → (rows ≡ []) × (left ≡ (0xa5 ∷ 0 ∷ 0 ∷ 0 ∷ []) ++ rest)
is_last columns [] left rest is tells is_no st = (refl, rows_none columns left rest st)
is_last columns (row ∷ rows) left rest is tells is_no st = let f = row_first columns row rows left rest st in let is_yes : is ≡ true = tells 0x5a _ f.parts in absurd (cc)

pub record RowsLeft (columns : List Column) (left rest : List ℕ) : Type 0 where
  pub rows : List Tree
  pub stand : StandRows columns rows left rest

-- passing over a row: its mark, and its cells
pub rows_left_next : (columns : List Column) (left rest row_bytes behind : List ℕ) (is : Bool) → TellsRow left is → is ≡ true → RowsLeft columns left rest
    → ((own more : List ℕ) → left ≡ own ++ more → length own ≡ 4 → row_bytes ≡ more)
    → ((cells : List Tree) (r : List ℕ) → StandCells columns cells row_bytes r → behind ≡ r) → RowsLeft columns behind rest
rows_left_next columns left rest row_bytes behind is tells is_yes w parts rests =
    let f = is_first columns w.rows left rest is tells is_yes w.stand in
    let same : row_bytes ≡ f.bytes = parts (0x5a ∷ 0 ∷ 0 ∷ 0 ∷ []) f.bytes f.parts refl in
    let ends : behind ≡ f.mid = rests (kids f.row) f.mid (subst (λ l. StandCells columns (kids f.row) l f.mid) (sym same) f.first) in
    record { rows = f.others; stand = subst (λ l. StandRows columns f.others l rest) (sym ends) f.behind }

pub rows_left_end : (columns : List Column) (left rest behind : List ℕ) (is : Bool) → TellsRow left is → is ≡ false → RowsLeft columns left rest
    → ((own more : List ℕ) → left ≡ own ++ more → length own ≡ 4 → behind ≡ more) → behind ≡ rest
rows_left_end columns left rest behind is tells is_no w parts = parts (0xa5 ∷ 0 ∷ 0 ∷ 0 ∷ []) rest (is_last columns w.rows left rest is tells is_no w.stand).1 refl
