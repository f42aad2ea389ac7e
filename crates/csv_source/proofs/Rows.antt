-- Rows of one width, their fields one after the other.
use Rattle.std.proofs.Common.{◌≡◌, ◌≤◌, ◌<◌, ◌+◌, ◌*◌, ℕ, zero, suc, Bool, true, List, [], ◌∷◌, ◌++◌, Some, length, take, drop, get_or, map, refl, sym, ap, arith, ◌∙◌, drop-cons, add-one}
use Rattle.std.specs.Prelude.{All, slice_get, option_and_then}
use Rattle.std.specs.List.{list_all}
use Rattle.std.proofs.lemmas.List.{drop-append-le, drop-drop, length-drop, length-map, take-append-le, take_all}
use Rattle.std.proofs.lemmas.List.Elements.{All-cons}
use Rattle.plain_lemmas.proofs.Lists.{slice_get-mapped}
use Rattle.plain_lemmas.proofs.Truths.{both_true}
use Rattle.dap_types.specs.declared.declarations.Column.{Column}
use Rattle.csv_source.specs.Causes.{is_row, row_values}
use Rattle.csv_source.specs.Cells.{is_cell, cell_value}
use Rattle.csv_source.specs.inner.Held.{held_rows, rows_of}

-- a row more
pub rows_of-push : (width n : ℕ) (fields row : List (List ℕ)) → length fields ≡ n * width → length row ≡ width
    → rows_of width (n + 1) (fields ++ row) ≡ rows_of width n fields ++ row ∷ []
unfolding rows_of
rows_of-push width zero [] row long wide = rw (take_all width row (omega (arith, wide))) refl
rows_of-push width zero (f ∷ fields) row long wide = absurd (grind (arith, long))
rows_of-push width (suc n) fields row long wide =
    let fits : width ≤ length fields = grind (arith, long) in
    let rest : length (drop width fields) ≡ n * width = rw (length-drop width fields) (grind (arith, long)) in
    let count : suc n + 1 ≡ suc (n + 1) = omega arith in
    rw (count, take-append-le width fields row fits, drop-append-le width fields row fits, rows_of-push width n (drop width fields) row rest wide) refl

-- the row at a place
rows_of-at : (width n : ℕ) (fields : List (List ℕ)) (i : ℕ) → i < n → slice_get (rows_of width n fields) i ≡ Some (take width (drop (i * width) fields))
unfolding rows_of
rows_of-at width zero fields i lt = absurd (omega (arith, lt))
rows_of-at width (suc n) fields zero lt =
    let none : 0 * width ≡ 0 = omega arith in
    ap (λ k. Some (take width (drop k fields))) (sym none)
rows_of-at width (suc n) fields (suc i) lt =
    let further : width + i * width ≡ suc i * width = grind arith in
    rows_of-at width n (drop width fields) i (omega (arith, lt))
    ∙ ap (λ xs. Some (take width xs)) (drop-drop (i * width) width fields)
    ∙ ap (λ k. Some (take width (drop k fields))) further

-- what all pass, each passes
pub list_all-get : {X : Type 0} (p : X → Bool) (xs : List X) (i : ℕ) (x : X) → list_all p xs ≡ true → slice_get xs i ≡ Some x → p x ≡ true
list_all-get p [] i x all is = cc is
list_all-get p (y ∷ ys) zero x all is =
    let same : y ≡ x = cc is in
    rw same at (both_true (p y) (list_all p ys) all).0
list_all-get p (y ∷ ys) (suc i) x all is = list_all-get p ys i x (both_true (p y) (list_all p ys) all).1 is

-- a row has a cell for each column
row-get : (columns : List Column) (fields : List (List ℕ)) (i : ℕ) (c : Column) → is_row columns fields ≡ true → slice_get columns i ≡ Some c
    → (field : List ℕ) × (slice_get fields i ≡ Some field) × (is_cell c.base field ≡ true) × (slice_get (row_values columns fields) i ≡ Some (cell_value c.base field))
unfolding is_row row_values
row-get [] fields i c row is = cc is
row-get (d ∷ ds) [] i c row is = cc row
row-get (d ∷ ds) (f ∷ fields) zero c row is =
    let same : d ≡ c = cc is in
    (f, refl, rw same at (both_true (is_cell d.base f) (is_row ds fields) row).0, rw same refl)
row-get (d ∷ ds) (f ∷ fields) (suc i) c row is = row-get ds fields i c (both_true (is_cell d.base f) (is_row ds fields) row).1 is

-- a row has as many values as columns
pub row-long : (columns : List Column) (fields : List (List ℕ)) → is_row columns fields ≡ true → length (row_values columns fields) ≡ length columns
unfolding is_row row_values
row-long [] fields row = refl
row-long (d ∷ ds) [] row = cc row
row-long (d ∷ ds) (f ∷ fields) row = ap suc (row-long ds fields (both_true (is_cell d.base f) (is_row ds fields) row).1)

-- and as many fields
pub row-wide : (columns : List Column) (fields : List (List ℕ)) → is_row columns fields ≡ true → length fields ≡ length columns
unfolding is_row
row-wide [] [] row = refl
row-wide [] (f ∷ fields) row = cc row
row-wide (d ∷ ds) [] row = cc row
row-wide (d ∷ ds) (f ∷ fields) row = ap suc (row-wide ds fields (both_true (is_cell d.base f) (is_row ds fields) row).1)

-- a field of a part
take-drop-get : {X : Type 0} (xs : List X) (width start i : ℕ) (x : X) → slice_get (take width (drop start xs)) i ≡ Some x → slice_get xs (start + i) ≡ Some x
take-drop-get [] zero zero i x is = cc is
take-drop-get [] (suc width) zero i x is = cc is
take-drop-get [] zero (suc start) i x is = cc is
take-drop-get [] (suc width) (suc start) i x is = cc is
take-drop-get (y ∷ ys) zero zero i x is = cc is
take-drop-get (y ∷ ys) (suc width) zero zero x is = is
take-drop-get (y ∷ ys) (suc width) zero (suc i) x is =
    let e : 0 + suc i ≡ suc (0 + i) = omega arith in
    rw e (take-drop-get ys width zero i x is)
take-drop-get (y ∷ ys) width (suc start) i x is = let e : suc start + i ≡ suc (start + i) = omega arith in rw e (take-drop-get ys width start i x is)

-- the cell of a table at a row and a column
pub held-cell : (columns : List Column) (rows : ℕ) (fields : List (List ℕ)) (row column : ℕ) (c : Column)
    → list_all (is_row columns) (rows_of (length columns) rows fields) ≡ true → row < rows → slice_get columns column ≡ Some c
    → (field : List ℕ) × (slice_get fields (row * length columns + column) ≡ Some field) × (is_cell c.base field ≡ true)
    × (option_and_then (λ values. slice_get values column) (slice_get (held_rows columns rows fields) row) ≡ Some (cell_value c.base field))
unfolding held_rows
held-cell columns rows fields row column c are_rows lt is =
    let at = rows_of-at (length columns) rows fields row lt in
    let whole_row = list_all-get (is_row columns) (rows_of (length columns) rows fields) row (take (length columns) (drop (row * length columns) fields)) are_rows at in
    let (field, there, good, value) = row-get columns (take (length columns) (drop (row * length columns) fields)) column c whole_row is in
    let placed = take-drop-get fields (length columns) (row * length columns) column field there in (
      field,
      placed,
      good,
      rw (slice_get-mapped (row_values columns) (rows_of (length columns) rows fields) row (take (length columns) (drop (row * length columns) fields)) at) value,
    )

pub rows_of-length : (width n : ℕ) (fields : List (List ℕ)) → length (rows_of width n fields) ≡ n
unfolding rows_of
rows_of-length width zero fields = refl
rows_of-length width (suc n) fields = ap suc (rows_of-length width n (drop width fields))

pub held-count : (columns : List Column) (rows : ℕ) (fields : List (List ℕ)) → length (held_rows columns rows fields) ≡ rows
unfolding held_rows
held-count columns rows fields = length-map (rows_of (length columns) rows fields) (row_values columns) ∙ rows_of-length (length columns) rows fields

all-long : (columns : List Column) (rows : List (List (List ℕ))) → list_all (is_row columns) rows ≡ true → All (λ row. length row ≡ length columns) (map (row_values columns) rows)
all-long columns [] all = λ k d lt. absurd (omega (arith, lt))
all-long columns (row ∷ rows) all =
    let (here, rest) = both_true (is_row columns row) (list_all (is_row columns) rows) all in
    All-cons (λ r. length r ≡ length columns) (row_values columns row) (map (row_values columns) rows) (row-long columns row here) (all-long columns rows rest)

-- each row has a value for each column
pub held-long : (columns : List Column) (rows : ℕ) (fields : List (List ℕ)) → list_all (is_row columns) (rows_of (length columns) rows fields) ≡ true
    → All (λ row. length row ≡ length columns) (held_rows columns rows fields)
unfolding held_rows
held-long columns rows fields are_rows = all-long columns (rows_of (length columns) rows fields) are_rows

-- from a place on there are the field there and those behind it
pub fields-here : (fields : List (List ℕ)) (i : ℕ) (field : List ℕ) → i < length fields → get_or fields i [] ≡ field → drop i fields ≡ field ∷ drop (i + 1) fields
fields-here fields i field lt is = drop-cons fields i [] lt ∙ ap (λ f. f ∷ drop (suc i) fields) is ∙ rw add-one refl
