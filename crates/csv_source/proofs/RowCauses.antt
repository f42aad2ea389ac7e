-- What is wrong with rows, column by column and row by row.
use Rattle.std.proofs.Common.{◌≡◌, ◌≤◌, ◌<◌, ◌+◌, ℕ, suc, Bool, true, false, List, [], ◌∷◌, ◌++◌, Some, None, length, drop, get_or, refl, ap, arith, ◌∙◌}
use Rattle.std.specs.Prelude.{◌&&◌, ◌==◌, if◌then◌else◌, option_map, Option}
use Rattle.std.specs.List.{list_all}
use Rattle.std.specs.Option.{option_or}
use Rattle.std.proofs.lemmas.Bool.Decides.{nat_tests}
use Rattle.std.proofs.lemmas.List.{drop_all}
use Rattle.plain_lemmas.proofs.Lists.{drop_here}
use Rattle.plain_lemmas.proofs.Truths.{both_true}
use Rattle.dap_types.specs.declared.declarations.Column.{Column}
use Rattle.csv_source.specs.Causes.{bad_column, is_row, row_cause, rows_cause}
use Rattle.csv_source.specs.Cells.{is_cell}
use Rattle.csv_source.specs.declared.refusal.TableRefusal.{TableRefusal}
use Rattle.csv_source.specs.declared.refusal.TableRefusal.TheVariants.{BadCell, Ragged}
use Rattle.csv_source.proofs.Rows.{fields-here, row-wide}

-- a row from a column on
pub row-step : (columns : List Column) (fields : List (List ℕ)) (i : ℕ) (c : Column) (field : List ℕ)
    → i < length columns → c ≡ get_or columns i c → i < length fields → get_or fields i [] ≡ field
    → is_row (drop i columns) (drop i fields) ≡ (is_cell c.base field && is_row (drop (i + 1) columns) (drop (i + 1) fields))
unfolding is_row
row-step columns fields i c field lt is there at = rw (drop_here columns i c lt is, fields-here fields i field there at) refl

pub row-end : (columns : List Column) (fields : List (List ℕ)) (i : ℕ) → length columns ≤ i → length fields ≤ i → is_row (drop i columns) (drop i fields) ≡ true
unfolding is_row
row-end columns fields i le there = rw (drop_all i columns le, drop_all i fields there) refl

-- its first bad cell
pub bad-step : (columns : List Column) (fields : List (List ℕ)) (i number : ℕ) (c : Column) (field : List ℕ)
    → i < length columns → c ≡ get_or columns i c → i < length fields → get_or fields i [] ≡ field
    → bad_column number (drop i columns) (drop i fields) ≡ (if is_cell c.base field then bad_column (number + 1) (drop (i + 1) columns) (drop (i + 1) fields) else Some number)
unfolding bad_column
bad-step columns fields i number c field lt is there at = rw (drop_here columns i c lt is, fields-here fields i field there at) refl

-- what is wrong with a row
pub row-ragged : (columns : List Column) (row : ℕ) (fields : List (List ℕ)) → (length fields == length columns) ≡ false → row_cause columns row fields ≡ Some (Ragged row)
unfolding row_cause
row-ragged columns row fields other = rw other refl

pub row-bad-cell : (columns : List Column) (row number : ℕ) (fields : List (List ℕ)) → (length fields == length columns) ≡ true → bad_column 1 columns fields ≡ Some number
    → row_cause columns row fields ≡ Some (BadCell row number)
unfolding row_cause
row-bad-cell columns row number fields same bad = rw (same, bad) refl

none-bad : (columns : List Column) (number : ℕ) (fields : List (List ℕ)) → is_row columns fields ≡ true → bad_column number columns fields ≡ None
unfolding is_row bad_column
none-bad [] number fields row = refl
none-bad (c ∷ cs) number [] row = refl
none-bad (c ∷ cs) number (field ∷ fields) row =
    let (here, rest) = both_true (is_cell c.base field) (is_row cs fields) row in
    rw here (none-bad cs (number + 1) fields rest)

row-good : (columns : List Column) (row : ℕ) (fields : List (List ℕ)) → is_row columns fields ≡ true → row_cause columns row fields ≡ None
unfolding row_cause
row-good columns row fields is =
    let wide = row-wide columns fields is in
    let same : (length fields == length columns) ≡ true = grind (arith, nat_tests, wide) in
    rw (same, none-bad columns 1 fields is) refl

-- and back
all-cells : (columns : List Column) (number : ℕ) (fields : List (List ℕ)) → length fields ≡ length columns → bad_column number columns fields ≡ None → is_row columns fields ≡ true
unfolding is_row bad_column
all-cells [] number [] same none = refl
all-cells [] number (field ∷ fields) same none = absurd (omega (arith, same))
all-cells (c ∷ cs) number [] same none = absurd (omega (arith, same))
all-cells (c ∷ cs) number (field ∷ fields) same none = by_test (is_cell c.base field) refl none (all-cells cs (number + 1) fields (omega (arith, same)))
  where
    by_test : (b : Bool) → is_cell c.base field ≡ b → (if b then bad_column (number + 1) cs fields else Some number) ≡ None
        → (bad_column (number + 1) cs fields ≡ None → is_row cs fields ≡ true) → (is_cell c.base field && is_row cs fields) ≡ true
    by_test true is rest later = rw is (later rest)
    by_test false is rest later = cc rest

no-number : (o : Option ℕ) (row : ℕ) → option_map (λ number. BadCell row number) o ≡ None → o ≡ None
no-number None row is = refl
no-number (Some n) row is = cc is

pub row-clean : (columns : List Column) (row : ℕ) (fields : List (List ℕ)) → row_cause columns row fields ≡ None → is_row columns fields ≡ true
unfolding row_cause
row-clean columns row fields none = by_test (length fields == length columns) refl none
  where
    by_test : (b : Bool) → (length fields == length columns) ≡ b → (if b then option_map (λ number. BadCell row number) (bad_column 1 columns fields) else Some (Ragged row)) ≡ None → is_row columns fields ≡ true
    by_test true same rest = all-cells columns 1 fields (grind (arith, nat_tests, same)) (no-number (bad_column 1 columns fields) row rest)
    by_test false same rest = cc rest

-- rows without a fault, and more
pub rows-after : (columns : List Column) (row : ℕ) (rows more : List (List (List ℕ))) → list_all (is_row columns) rows ≡ true
    → rows_cause columns row (rows ++ more) ≡ rows_cause columns (row + length rows) more
unfolding rows_cause
rows-after columns row [] more are = let same : row + 0 ≡ row = omega arith in rw same refl
rows-after columns row (fields ∷ rows) more are =
    let (here, rest) = both_true (is_row columns fields) (list_all (is_row columns) rows) are in
    let count : row + 1 + length rows ≡ row + suc (length rows) = omega arith in
    rw (row-good columns row fields here) (rows-after columns (row + 1) rows more rest ∙ ap (λ k. rows_cause columns k more) count)

pub rows-hit : (columns : List Column) (row : ℕ) (fields : List (List ℕ)) (rest : List (List (List ℕ))) (cause : TableRefusal) → row_cause columns row fields ≡ Some cause
    → rows_cause columns row (fields ∷ rest) ≡ Some cause
unfolding rows_cause
rows-hit columns row fields rest cause is = rw is refl

pub rows-none : (columns : List Column) (row : ℕ) → rows_cause columns row [] ≡ None
unfolding rows_cause
rows-none columns row = refl

pub rows-clean : (columns : List Column) (row : ℕ) (rows : List (List (List ℕ))) → rows_cause columns row rows ≡ None → list_all (is_row columns) rows ≡ true
unfolding rows_cause
rows-clean columns row [] none = refl
rows-clean columns row (fields ∷ rows) none = by_cause (row_cause columns row fields) refl none (rows-clean columns (row + 1) rows)
  where
    by_cause : (o : Option TableRefusal) → row_cause columns row fields ≡ o → option_or o (rows_cause columns (row + 1) rows) ≡ None
        → (rows_cause columns (row + 1) rows ≡ None → list_all (is_row columns) rows ≡ true) → (is_row columns fields && list_all (is_row columns) rows) ≡ true
    by_cause None is rest later = rw (row-clean columns row fields is) (later rest)
    by_cause (Some e) is rest later = cc rest
