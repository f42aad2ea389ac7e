-- The answer of `table_of` is the table or the first cause, in the words of a reader.
use Rattle.std.proofs.Common.{◌≡◌, ◌≢◌, ◌≤◌, ◌+◌, ℕ, suc, Bool, true, false, List, [], ◌∷◌, ◌++◌, Some, None, length, map, take, refl, ap, arith, append_assoc}
use Rattle.std.specs.Prelude.{◌==◌, nat_lt, if◌then◌else◌, slice_get, Option, option_map, Result, Err, MatchResult}
use Rattle.std.specs.List.{IsDistinct, list_all, list_any}
use Rattle.std.specs.Option.{option_or}
use Rattle.std.specs.Str.{bytes_eq}
use Rattle.std.proofs.lemmas.Bool.Decides.{nat_tests}
use Rattle.std.proofs.lemmas.Cmp.{nat_list_eq_equiv}
use Rattle.std.proofs.lemmas.List.{append-nil}
use Rattle.std.proofs.lemmas.Map.Keys.{IsDistinct-push}
use Rattle.dap_types.specs.declared.declarations.Column.{Column}
use Rattle.csv_source.specs.Causes.{bad_column, is_row, ok_unless, row_cause, row_values, rows_cause, table_cause, table_of, table_of_records}
use Rattle.csv_source.specs.Cells.{is_cell}
use Rattle.csv_source.specs.Csv.{csv_records}
use Rattle.csv_source.specs.FirstCause.{Begins, IsFirstBadRow, IsFirstCause, IsFirstRepeat, IsHeader, IsRowCause, IsTableOf, names}
use Rattle.csv_source.specs.Header.{columns_of, repeated, repeated_from}
use Rattle.csv_source.specs.Laws.{TableOrCause}
use Rattle.csv_source.specs.Table.{CsvTable, table}
use Rattle.csv_source.specs.declared.refusal.TableRefusal.{TableRefusal}
use Rattle.csv_source.specs.declared.refusal.TableRefusal.TheVariants.{TooLong, NoHeader, TooWide, RepeatedColumn, Ragged, BadCell, Memory}
use Rattle.csv_source.proofs.RowCauses.{row-clean, rows-clean}

-- ---- names

one-more-name : (earlier : List (List ℕ)) (name : List ℕ) → IsDistinct bytes_eq earlier → list_any (bytes_eq name) earlier ≡ false → IsDistinct bytes_eq (earlier ++ name ∷ [])
one-more-name earlier name differ apart = IsDistinct-push nat_list_eq_equiv earlier name differ apart

-- the columns behind some names: no repeat, or the first one
pub no-repeat : (number : ℕ) (earlier : List (List ℕ)) (columns : List Column) → IsDistinct bytes_eq earlier → repeated_from number earlier columns ≡ None
    → IsDistinct bytes_eq (earlier ++ names columns)
unfolding repeated_from
no-repeat number earlier [] differ none = rw (append-nil earlier) differ
no-repeat number earlier (c ∷ columns) differ none =
    by_test (list_any (bytes_eq c.name) earlier) refl none (no-repeat (number + 1) (earlier ++ c.name ∷ []) columns)
  where
    by_test : (b : Bool) → list_any (bytes_eq c.name) earlier ≡ b → (if b then Some number else repeated_from (number + 1) (earlier ++ c.name ∷ []) columns) ≡ None
        → (IsDistinct bytes_eq (earlier ++ c.name ∷ []) → repeated_from (number + 1) (earlier ++ c.name ∷ []) columns ≡ None → IsDistinct bytes_eq ((earlier ++ c.name ∷ []) ++ names columns))
        → IsDistinct bytes_eq (earlier ++ c.name ∷ names columns)
    by_test true is rest later = cc rest
    by_test false is rest later = rw (append_assoc earlier (c.name ∷ []) (names columns)) at (later (one-more-name earlier c.name differ is) rest)

record RepeatsBehind (number : ℕ) (earlier : List (List ℕ)) (columns : List Column) (k : ℕ) : Type 0 where
  before : List Column
  column : Column
  after : List Column
  parts : columns ≡ before ++ column ∷ after
  count : k ≡ number + length before
  differ : IsDistinct bytes_eq (earlier ++ names before)
  again : list_any (bytes_eq column.name) (earlier ++ names before) ≡ true

first-repeat : (number : ℕ) (earlier : List (List ℕ)) (columns : List Column) (k : ℕ) → IsDistinct bytes_eq earlier → repeated_from number earlier columns ≡ Some k
    → RepeatsBehind number earlier columns k
unfolding repeated_from
first-repeat number earlier [] k differ some = cc some
first-repeat number earlier (c ∷ columns) k differ some =
    by_test (list_any (bytes_eq c.name) earlier) refl some (first-repeat (number + 1) (earlier ++ c.name ∷ []) columns k)
  where
    by_test : (b : Bool) → list_any (bytes_eq c.name) earlier ≡ b → (if b then Some number else repeated_from (number + 1) (earlier ++ c.name ∷ []) columns) ≡ Some k
        → (IsDistinct bytes_eq (earlier ++ c.name ∷ []) → repeated_from (number + 1) (earlier ++ c.name ∷ []) columns ≡ Some k → RepeatsBehind (number + 1) (earlier ++ c.name ∷ []) columns k)
        → RepeatsBehind number earlier (c ∷ columns) k
    by_test true is rest later =
        let same : number ≡ k = cc rest in
        record { before = []; column = c; after = columns; parts = refl; count = omega (arith, same); differ = rw (append-nil earlier) differ; again = rw (append-nil earlier) is }
    by_test false is rest later =
        let r = later (one-more-name earlier c.name differ is) rest in
        let all : (earlier ++ c.name ∷ []) ++ names r.before ≡ earlier ++ c.name ∷ names r.before = append_assoc earlier (c.name ∷ []) (names r.before) in
        record {
          before = c ∷ r.before;
          column = r.column;
          after = r.after;
          parts = ap (λ cs. c ∷ cs) r.parts;
          count = omega (arith, r.count);
          differ = rw all at r.differ;
          again = rw all at r.again;
        }

nothing-differs : IsDistinct bytes_eq []
unfolding IsDistinct
nothing-differs = tt

pub header-differs : (columns : List Column) → repeated columns ≡ None → IsDistinct bytes_eq (names columns)
header-differs columns none = no-repeat 1 [] columns nothing-differs none

repeat-found : (columns : List Column) (k : ℕ) → repeated columns ≡ Some k → IsFirstRepeat columns k
repeat-found columns k some =
    let r = first-repeat 1 [] columns k nothing-differs some in
    record { before = r.before; column = r.column; after = r.after; parts = r.parts; count = omega (arith, r.count); differ = r.differ; again = r.again }

-- ---- cells and rows

record BadFrom (number : ℕ) (columns : List Column) (fields : List (List ℕ)) (k : ℕ) : Type 0 where
  at : ℕ
  column : Column
  field : List ℕ
  count : k ≡ number + at
  column_is : slice_get columns at ≡ Some column
  field_is : slice_get fields at ≡ Some field
  bad : is_cell column.base field ≡ false
  good : is_row (take at columns) (take at fields) ≡ true

first-bad : (number : ℕ) (columns : List Column) (fields : List (List ℕ)) (k : ℕ) → bad_column number columns fields ≡ Some k → BadFrom number columns fields k
unfolding bad_column is_row
first-bad number [] fields k some = cc some
first-bad number (c ∷ columns) [] k some = cc some
first-bad number (c ∷ columns) (field ∷ fields) k some = by_test (is_cell c.base field) refl some (first-bad (number + 1) columns fields k)
  where
    by_test : (b : Bool) → is_cell c.base field ≡ b → (if b then bad_column (number + 1) columns fields else Some number) ≡ Some k
        → (bad_column (number + 1) columns fields ≡ Some k → BadFrom (number + 1) columns fields k) → BadFrom number (c ∷ columns) (field ∷ fields) k
    by_test false is rest later =
        let same : number ≡ k = cc rest in
        record { at = 0; column = c; field = field; count = omega (arith, same); column_is = refl; field_is = refl; bad = is; good = refl }
    by_test true is rest later =
        let r = later rest in
        record { at = suc r.at; column = r.column; field = r.field; count = omega (arith, r.count); column_is = r.column_is; field_is = r.field_is; bad = r.bad; good = rw is r.good }

cell-found : (columns : List Column) (row : ℕ) (fields : List (List ℕ)) (e : TableRefusal) (o : Option ℕ) → bad_column 1 columns fields ≡ o → length fields ≡ length columns
    → option_map (λ number. BadCell row number) o ≡ Some e → IsRowCause columns row fields e
cell-found columns row fields e None is same some = cc some
cell-found columns row fields e (Some k) is same some =
    let cause : e ≡ BadCell row k = cc some in
    let r = first-bad 1 columns fields k is in
    rw cause (refl, same, record { at = r.at; column = r.column; field = r.field; count = omega (arith, r.count); column_is = r.column_is; field_is = r.field_is; bad = r.bad; good = r.good })

row-found : (columns : List Column) (row : ℕ) (fields : List (List ℕ)) (e : TableRefusal) → row_cause columns row fields ≡ Some e → IsRowCause columns row fields e
unfolding row_cause
row-found columns row fields e some = by_test (length fields == length columns) refl some
  where
    by_test : (b : Bool) → (length fields == length columns) ≡ b → (if b then option_map (λ number. BadCell row number) (bad_column 1 columns fields) else Some (Ragged row)) ≡ Some e → IsRowCause columns row fields e
    by_test true same rest = cell-found columns row fields e (bad_column 1 columns fields) refl (grind (arith, nat_tests, same)) rest
    by_test false other rest =
        let cause : e ≡ Ragged row = cc rest in
        let apart : length fields ≢ length columns = grind (arith, nat_tests, other) in
        rw cause (refl, apart)

record BadRowFrom (row : ℕ) (columns : List Column) (rows : List (List (List ℕ))) (cause : TableRefusal) : Type 0 where
  before : List (List (List ℕ))
  fields : List (List ℕ)
  after : List (List (List ℕ))
  parts : rows ≡ before ++ fields ∷ after
  good : list_all (is_row columns) before ≡ true
  bad : row_cause columns (row + length before) fields ≡ Some cause

first-row : (row : ℕ) (columns : List Column) (rows : List (List (List ℕ))) (e : TableRefusal) → rows_cause columns row rows ≡ Some e → BadRowFrom row columns rows e
unfolding rows_cause
first-row row columns [] e some = cc some
first-row row columns (fields ∷ rows) e some = by_cause (row_cause columns row fields) refl some (first-row (row + 1) columns rows e)
  where
    by_cause : (o : Option TableRefusal) → row_cause columns row fields ≡ o → option_or o (rows_cause columns (row + 1) rows) ≡ Some e
        → (rows_cause columns (row + 1) rows ≡ Some e → BadRowFrom (row + 1) columns rows e) → BadRowFrom row columns (fields ∷ rows) e
    by_cause (Some f) is rest later =
        let same : f ≡ e = cc rest in
        let here : row + 0 ≡ row = omega arith in
        record { before = []; fields = fields; after = rows; parts = refl; good = refl; bad = rw (here, ← same) is }
    by_cause None is rest later =
        let r = later rest in
        let count : row + 1 + length r.before ≡ row + suc (length r.before) = omega arith in
        record { before = fields ∷ r.before; fields = r.fields; after = r.after; parts = ap (λ rs. fields ∷ rs) r.parts; good = rw (row-clean columns row fields is, r.good) refl; bad = rw count at r.bad }

row-first : (columns : List Column) (rows : List (List (List ℕ))) (e : TableRefusal) → rows_cause columns 1 rows ≡ Some e → IsFirstBadRow columns rows e
row-first columns rows e some =
    let r = first-row 1 columns rows e some in
    let count : 1 + length r.before ≡ length r.before + 1 = omega arith in
    record { before = r.before; fields = r.fields; after = r.after; parts = r.parts; good = r.good; bad = row-found columns (length r.before + 1) r.fields e (rw count at r.bad) }

-- ---- files

abbrev Answers : List ℕ → List ℕ → Result CsvTable TableRefusal → Type 0
Answers file_name bytes r = MatchResult r (IsTableOf file_name bytes) (IsFirstCause bytes)

of-bad-row : (bytes : List ℕ) (header : List (List ℕ)) (rows : List (List (List ℕ))) (e : TableRefusal) → Begins bytes header rows → IsHeader header → IsFirstBadRow (columns_of header) rows e → IsFirstCause bytes e
of-bad-row bytes header rows (Ragged row) begins is bad = (header, rows, begins, is, bad)
of-bad-row bytes header rows (BadCell row number) begins is bad = (header, rows, begins, is, bad)
of-bad-row bytes header rows TooLong begins is bad = absurd bad.bad
of-bad-row bytes header rows NoHeader begins is bad = absurd bad.bad
of-bad-row bytes header rows TooWide begins is bad = absurd bad.bad
of-bad-row bytes header rows (RepeatedColumn number) begins is bad = absurd bad.bad
of-bad-row bytes header rows Memory begins is bad = absurd bad.bad

of-rows : (file_name bytes : List ℕ) (header : List (List ℕ)) (rows : List (List (List ℕ))) → Begins bytes header rows → IsHeader header → (o : Option TableRefusal) → rows_cause (columns_of header) 1 rows ≡ o
    → Answers file_name bytes (ok_unless o (table file_name (columns_of header) (map (row_values (columns_of header)) rows)))
of-rows file_name bytes header rows begins is (Some e) some = of-bad-row bytes header rows e begins is (row-first (columns_of header) rows e some)
of-rows file_name bytes header rows begins is None none =
    record { header = header; rows = rows; begins = begins; is_header = is; are_rows = rows-clean (columns_of header) 1 rows none; is_table = refl }

of-header : (file_name bytes : List ℕ) (header : List (List ℕ)) (rows : List (List (List ℕ))) → Begins bytes header rows → length header ≤ 1024 → (o : Option ℕ) → repeated (columns_of header) ≡ o
    → Answers file_name bytes (ok_unless (option_or (option_map (λ number. RepeatedColumn number) o) (rows_cause (columns_of header) 1 rows)) (table file_name (columns_of header) (map (row_values (columns_of header)) rows)))
of-header file_name bytes header rows begins few (Some k) some = (header, rows, begins, few, repeat-found (columns_of header) k some)
of-header file_name bytes header rows begins few None none =
    of-rows file_name bytes header rows begins (record { few = few; differ = header-differs (columns_of header) none }) (rows_cause (columns_of header) 1 rows) refl

of-records : (file_name bytes : List ℕ) (records : List (List (List ℕ))) → length bytes ≤ 67108864 → csv_records bytes ≡ records → Answers file_name bytes (table_of_records file_name records)
unfolding table_of_records
of-records file_name bytes [] short are = (short, are)
of-records file_name bytes (header ∷ rows) short are = by_test (nat_lt 1024 (length header)) refl
  where
    by_test : (b : Bool) → nat_lt 1024 (length header) ≡ b
        → Answers file_name bytes (if b then Err TooWide else ok_unless (table_cause (columns_of header) rows) (table file_name (columns_of header) (map (row_values (columns_of header)) rows)))
    by_test true wide = (header, rows, record { short = short; parts = are }, grind (arith, nat_tests, wide))
    by_test false few = of-header file_name bytes header rows (record { short = short; parts = are }) (grind (arith, nat_tests, few)) (repeated (columns_of header)) refl

pub table-or-cause : TableOrCause
unfolding table_of
table-or-cause file_name bytes = by_test (nat_lt 67108864 (length bytes)) refl
  where
    by_test : (b : Bool) → nat_lt 67108864 (length bytes) ≡ b → Answers file_name bytes (if b then Err TooLong else table_of_records file_name (csv_records bytes))
    by_test true long = grind (arith, nat_tests, long)
    by_test false short = of-records file_name bytes (csv_records bytes) (grind (arith, nat_tests, short)) refl
