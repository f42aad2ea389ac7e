-- Rows and cells of a Sequence in the bytes of a response, and what goes out of them.
use Rattle.std.proofs.Common.{◌≡◌, ℕ, ◌+◌, Bool, true, false, cond, List, [], ◌∷◌, ◌++◌, length, filter, Option, Some, None, refl, sym, ap, ◌∙◌, subst, append_assoc, append-nil}
use Rattle.std.specs.List.{flat_map}
use Rattle.std.specs.Option.{option_map_or}
use Rattle.xdr_values.proofs.ElementRuns.{no_bytes}
use Rattle.xdr_encode.proofs.RowSteps.{end-bytes}
use Rattle.dap_types.proofs.Views.{items-trees_of}
use Rattle.dap_types.specs.Model.{Tree, one, many, trees_of, items, kids}
use Rattle.dap_types.specs.declared.declarations.Column.{Column}
use Rattle.dap_types.specs.declared.slabs.Slab.{Slab}
use Rattle.dap_types.specs.declared.values.Value.{Value}
use Rattle.dap_model.proofs.Values.{bytes_of-append}
use Rattle.dap_model.proofs.Whole.{as_many}
use Rattle.dap_model.specs.Filter.{Marks, Keeps, marked, unchanged}
use Rattle.dap_model.specs.Fits.{IsMany}
use Rattle.dap_model.specs.Xdr.{Field, bytes_of, cell_fields, field_bytes, mark, value_fields}
use Rattle.dap_outside.proofs.Passing.{IsOnItsWay, way_begins, way_ends, way_failed, way_more}
use Rattle.dap_outside.specs.Buffered.{Passes, PassesFront}
use Rattle.xdr_values.specs.Walked.{StandCells, StandRows, StandsValue}
use Rattle.saved_source.specs.Walked.{cells_sent, row_if_kept, row_sent, rows_sent, value_sent}
use Rattle.xdr_values.proofs.RowParts.{CellFirst, cell_first, RowFirst, TellsRow, is_first, is_last, rows_left_end}

-- what goes out of the first cell, and of the others
cells_parts : (marks : Marks) (n : ℕ) (c : Column) (columns : List Column) (v : Value) (ts : List Tree)
    → cells_sent marks n (c ∷ columns) (one v ∷ ts) ≡ value_sent marks n c.base v ++ cells_sent marks (n + 1) columns ts
cells_parts marks n c columns v ts = go (marks n)
  where
    go : (o : Option (List Slab))
        → cell_fields (option_map_or (λ slabs. c ∷ marked unchanged marks (n + 1) columns) o (marked unchanged marks (n + 1) columns)) (option_map_or (λ slabs. one v ∷ marked unchanged marks (n + 1) ts) o (marked unchanged marks (n + 1) ts))
        ≡ option_map_or (λ slabs. value_fields c.base v) o [] ++ cells_sent marks (n + 1) columns ts
    go None = refl
    go (Some slabs) = ap (λ fs. fs ++ cells_sent marks (n + 1) columns ts) (append-nil (value_fields c.base v))

pub record CellsWay (before : Option (List ℕ)) (held : List ℕ) (now : Option (List ℕ)) (kept : List ℕ) (marks : Marks) (n : ℕ) (columns : List Column) (left rest text : List ℕ) : Type 0 where
  pub cells : List Tree
  pub stand : StandCells columns cells left rest
  pub way : IsOnItsWay before held now kept (bytes_of (cells_sent marks n columns cells)) text

pub cells_begin : (w : Option (List ℕ)) (held : List ℕ) (marks : Marks) (n : ℕ) (columns : List Column) (cells : List Tree) (bytes rest : List ℕ) → StandCells columns cells bytes rest
    → CellsWay w held w held marks n columns bytes rest (bytes_of (cells_sent marks n columns cells))
cells_begin w held marks n columns cells bytes rest st = record { cells = cells; stand = st; way = way_begins w held (bytes_of (cells_sent marks n columns cells)) }

module _ (a b d : Option (List ℕ)) (held mid after : List ℕ) (marks : Marks) (n : ℕ) (all : List Column) (c : Column) (columns : List Column) (left rest text : List ℕ) (here : all ≡ c ∷ columns) where
  from_first : CellsWay a held b mid marks n all left rest text → CellsWay a held b mid marks n (c ∷ columns) left rest text
  from_first w = subst (λ cs. CellsWay a held b mid marks n cs left rest text) here w

  sent_parts : (cells : List Tree) (f : CellFirst c columns cells left rest)
      → bytes_of (cells_sent marks n (c ∷ columns) cells) ≡ bytes_of (value_sent marks n c.base f.value) ++ bytes_of (cells_sent marks (n + 1) columns f.others)
  sent_parts cells f =
      ap (λ ts. bytes_of (cells_sent marks n (c ∷ columns) ts)) f.cells_are ∙ ap bytes_of (cells_parts marks n c columns f.value f.others)
      ∙ bytes_of-append (value_sent marks n c.base f.value) (cells_sent marks (n + 1) columns f.others)

  pub cells_next : (next : ℕ) (behind : List ℕ) → next ≡ n + 1 → CellsWay a held b mid marks n all left rest text
      → ((v : Value) (r : List ℕ) → StandsValue c.base v left r → Passes b mid d after (bytes_of (value_sent marks n c.base v)))
      → ((v : Value) (r : List ℕ) → StandsValue c.base v left r → behind ≡ r)
      → CellsWay a held d after marks next columns behind rest text
  cells_next next behind at w puts rests =
      let v = from_first w in
      let f = cell_first c columns v.cells left rest v.stand in
      subst (λ k. CellsWay a held d after marks k columns behind rest text) (sym at)
      (record {
        cells = f.others;
        stand = subst (λ l. StandCells columns f.others l rest) (sym (rests f.value f.mid f.first)) f.behind;
        way = way_more a b d held mid after _ _ _ text (sent_parts v.cells f) v.way (puts f.value f.mid f.first);
      })

  pub cells_failed : CellsWay a held b mid marks n all left rest text → ((v : Value) (r : List ℕ) → StandsValue c.base v left r → PassesFront b mid d (bytes_of (value_sent marks n c.base v)))
      → PassesFront a held d text
  cells_failed w puts =
      let v = from_first w in
      let f = cell_first c columns v.cells left rest v.stand in
      way_failed a b d held mid _ _ _ text (sent_parts v.cells f) v.way (puts f.value f.mid f.first)

pub cells_end : (a b : Option (List ℕ)) (held after : List ℕ) (marks : Marks) (n : ℕ) (columns : List Column) (left rest text : List ℕ) → columns ≡ [] → CellsWay a held b after marks n columns left rest text → Passes a held b after text
cells_end a b held after marks n columns left rest text none w = way_ends a b held after _ text (nothing w.cells) w.way
  where
    no_field : (ts : List Tree) → cell_fields [] ts ≡ []
    no_field [] = refl
    no_field (t ∷ ts) = refl

    nothing : (cells : List Tree) → bytes_of (cells_sent marks n columns cells) ≡ []
    nothing cells = ap (λ cs. bytes_of (cells_sent marks n cs cells)) none ∙ ap bytes_of (no_field (marked unchanged marks n cells)) ∙ no_bytes

-- what goes out of the first row, and of the others
row_parts : (marks : Marks) (keeps : Keeps) (n : ℕ) (columns : List Column) (row : Tree) (rows : List Tree) → IsMany row
    → bytes_of (rows_sent marks keeps n columns (row ∷ rows)) ≡ bytes_of (row_if_kept marks keeps n columns (kids row)) ++ bytes_of (rows_sent marks keeps n columns rows)
row_parts marks keeps n columns row rows is = split ∙ bytes_of-append (row_if_kept marks keeps n columns (kids row)) (rows_sent marks keeps n columns rows)
  where
    split : bytes_of (rows_sent marks keeps n columns (row ∷ rows)) ≡ bytes_of (row_if_kept marks keeps n columns (kids row) ++ rows_sent marks keeps n columns rows)
    split = ap bytes_of (go (keeps n row) ∙ ap (λ r. cond (keeps n r) (row_sent marks n columns r) [] ++ rows_sent marks keeps n columns rows) (sym (as_many row is)))
      where
        go : (b : Bool) → flat_map (row_sent marks n columns) (cond b (row ∷ filter (keeps n) rows) (filter (keeps n) rows)) ++ mark 0xa5 ∷ [] ≡ cond b (row_sent marks n columns row) [] ++ rows_sent marks keeps n columns rows
        go true = append_assoc (row_sent marks n columns row) (flat_map (row_sent marks n columns) (filter (keeps n) rows)) (mark 0xa5 ∷ [])
        go false = refl

pub record RowsWay (before : Option (List ℕ)) (held : List ℕ) (now : Option (List ℕ)) (kept : List ℕ) (marks : Marks) (keeps : Keeps) (n : ℕ) (columns : List Column) (left rest text : List ℕ) : Type 0 where
  pub rows : List Tree
  pub stand : StandRows columns rows left rest
  pub way : IsOnItsWay before held now kept (bytes_of (rows_sent marks keeps n columns rows)) text

pub rows_begin : (w : Option (List ℕ)) (held : List ℕ) (marks : Marks) (keeps : Keeps) (n : ℕ) (columns : List Column) (rows : List Tree) (bytes rest : List ℕ) → StandRows columns rows bytes rest
    → RowsWay w held w held marks keeps n columns bytes rest (bytes_of (rows_sent marks keeps n columns rows))
rows_begin w held marks keeps n columns rows bytes rest st = record { rows = rows; stand = st; way = way_begins w held (bytes_of (rows_sent marks keeps n columns rows)) }

module _ (a b d : Option (List ℕ)) (held mid after : List ℕ) (marks : Marks) (keeps : Keeps) (n : ℕ) (columns : List Column) (left rest text row_bytes : List ℕ) (is : Bool) (tells : TellsRow left is) (is_yes : is ≡ true)
    (parts : (own more : List ℕ) → left ≡ own ++ more → length own ≡ 4 → row_bytes ≡ more) where
  sent_here : (rows : List Tree) (f : RowFirst columns rows left rest) → bytes_of (rows_sent marks keeps n columns rows) ≡ bytes_of (row_if_kept marks keeps n columns (kids f.row)) ++ bytes_of (rows_sent marks keeps n columns f.others)
  sent_here rows f = ap (λ rs. bytes_of (rows_sent marks keeps n columns rs)) f.rows_are ∙ row_parts marks keeps n columns f.row f.others f.is_many

  cells_here : (rows : List Tree) (f : RowFirst columns rows left rest) → StandCells columns (kids f.row) row_bytes f.mid
  cells_here rows f = subst (λ l. StandCells columns (kids f.row) l f.mid) (sym (parts (0x5a ∷ 0 ∷ 0 ∷ 0 ∷ []) f.bytes f.parts refl)) f.first

  pub rows_next : (behind : List ℕ) → RowsWay a held b mid marks keeps n columns left rest text
      → ((cells : List Tree) (r : List ℕ) → StandCells columns cells row_bytes r → Passes b mid d after (bytes_of (row_if_kept marks keeps n columns cells)))
      → ((cells : List Tree) (r : List ℕ) → StandCells columns cells row_bytes r → behind ≡ r)
      → RowsWay a held d after marks keeps n columns behind rest text
  rows_next behind w puts rests =
      let f = is_first columns w.rows left rest is tells is_yes w.stand in
      let here = cells_here w.rows f in
      record {
        rows = f.others;
        stand = subst (λ l. StandRows columns f.others l rest) (sym (rests (kids f.row) f.mid here)) f.behind;
        way = way_more a b d held mid after _ _ _ text (sent_here w.rows f) w.way (puts (kids f.row) f.mid here);
      }

  pub rows_failed : RowsWay a held b mid marks keeps n columns left rest text
      → ((cells : List Tree) (r : List ℕ) → StandCells columns cells row_bytes r → PassesFront b mid d (bytes_of (row_if_kept marks keeps n columns cells))) → PassesFront a held d text
  rows_failed w puts =
      let f = is_first columns w.rows left rest is tells is_yes w.stand in
      way_failed a b d held mid _ _ _ text (sent_here w.rows f) w.way (puts (kids f.row) f.mid (cells_here w.rows f))

module _ (a b d : Option (List ℕ)) (held mid after : List ℕ) (marks : Marks) (keeps : Keeps) (n : ℕ) (columns : List Column) (left rest text : List ℕ) (is : Bool) (tells : TellsRow left is) (is_no : is ≡ false) where
  ends_with : (rows : List Tree) → StandRows columns rows left rest → bytes_of (rows_sent marks keeps n columns rows) ≡ (0xa5 ∷ 0 ∷ 0 ∷ 0 ∷ []) ++ []
  ends_with rows st = ap (λ rs. bytes_of (rows_sent marks keeps n columns rs)) (is_last columns rows left rest is tells is_no st).0 ∙ end-bytes

  pub rows_end : RowsWay a held b mid marks keeps n columns left rest text → Passes b mid d after (0xa5 ∷ 0 ∷ 0 ∷ 0 ∷ []) → Passes a held d after text
  rows_end w put = way_ends a d held after [] text refl (way_more a b d held mid after _ (0xa5 ∷ 0 ∷ 0 ∷ 0 ∷ []) [] text (ends_with w.rows w.stand) w.way put)

  pub rows_end_failed : RowsWay a held b mid marks keeps n columns left rest text → PassesFront b mid d (0xa5 ∷ 0 ∷ 0 ∷ 0 ∷ []) → PassesFront a held d text
  rows_end_failed w put = way_failed a b d held mid _ (0xa5 ∷ 0 ∷ 0 ∷ 0 ∷ []) [] text (ends_with w.rows w.stand) w.way put

-- ---- a row that goes out, and one that does not
pub row_out : (marks : Marks) (keeps : Keeps) (n : ℕ) (columns : List Column) (cells : List Tree) → keeps n (many (trees_of cells)) ≡ false → bytes_of (row_if_kept marks keeps n columns cells) ≡ []
row_out marks keeps n columns cells is = ap (λ b. bytes_of (cond b (row_sent marks n columns (many (trees_of cells))) [])) is ∙ no_bytes

mark_first : (b : ℕ) (fs : List Field) → bytes_of (mark b ∷ fs) ≡ (b ∷ 0 ∷ 0 ∷ 0 ∷ []) ++ bytes_of fs
unfolding bytes_of field_bytes
mark_first b fs = refl

pub row_in : (marks : Marks) (keeps : Keeps) (n : ℕ) (columns : List Column) (cells : List Tree) → keeps n (many (trees_of cells)) ≡ true
    → (0x5a ∷ 0 ∷ 0 ∷ 0 ∷ []) ++ bytes_of (cells_sent marks (n + 1) columns cells) ≡ bytes_of (row_if_kept marks keeps n columns cells)
row_in marks keeps n columns cells is =
    sym
    (ap (λ b. bytes_of (cond b (row_sent marks n columns (many (trees_of cells))) [])) is
    ∙ mark_first 0x5a (cells_sent marks (n + 1) columns (items (trees_of cells)))
    ∙ ap (λ cs. (0x5a ∷ 0 ∷ 0 ∷ 0 ∷ []) ++ bytes_of (cells_sent marks (n + 1) columns cs)) (items-trees_of cells))

-- rows where a column is marked, and where none is
pub rows_in : (b : Bool) (fs : List Field) → b ≡ true → bytes_of fs ≡ bytes_of (cond b fs [])
rows_in b fs is = ap (λ c. bytes_of (cond c fs [])) (sym is)

pub rows_out : (b : Bool) (fs : List Field) → b ≡ false → bytes_of (cond b fs []) ≡ []
rows_out b fs is = ap (λ c. bytes_of (cond c fs [])) is ∙ no_bytes

-- what stands behind the rows
pub rows_way_end : (before now : Option (List ℕ)) (held kept : List ℕ) (marks : Marks) (keeps : Keeps) (n : ℕ) (columns : List Column) (left rest text behind : List ℕ) (is : Bool) → TellsRow left is → is ≡ false
    → RowsWay before held now kept marks keeps n columns left rest text → ((own more : List ℕ) → left ≡ own ++ more → length own ≡ 4 → behind ≡ more) → behind ≡ rest
rows_way_end before now held kept marks keeps n columns left rest text behind is tells is_no w parts = rows_left_end columns left rest behind is tells is_no (record { rows = w.rows; stand = w.stand }) parts
