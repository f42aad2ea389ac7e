-- A table, and a first cause, in the words of a reader are the answer of `table_of`.
use Rattle.std.proofs.Common.{◌≡◌, ◌+◌, ℕ, suc, zero, true, false, List, [], ◌∷◌, ◌++◌, Some, None, length, take, refl, sym, ap, arith, ◌∙◌, append_assoc}
use Rattle.std.specs.Prelude.{◌==◌, slice_get, Ok, Err}
use Rattle.std.specs.List.{AllByRecursion, IsDistinct, list_any}
use Rattle.std.specs.Str.{bytes_eq}
use Rattle.std.proofs.lemmas.Bool.Decides.{nat_tests}
use Rattle.std.proofs.lemmas.Cmp.{nat_list_eq_equiv}
use Rattle.std.proofs.lemmas.List.{append-nil}
use Rattle.std.proofs.lemmas.Bool.{or_from}
use Rattle.plain_lemmas.proofs.Truths.{both_true}
use Rattle.dap_types.specs.declared.declarations.Column.{Column}
use Rattle.csv_source.specs.Causes.{bad_column, is_row, row_cause, rows_cause, table_of}
use Rattle.csv_source.specs.Cells.{is_cell}
use Rattle.csv_source.specs.Csv.{csv_records}
use Rattle.csv_source.specs.FirstCause.{Begins, IsFirstBadRow, IsFirstCause, IsFirstRepeat, IsHeader, IsRowCause, IsTableOf, names}
use Rattle.csv_source.specs.Header.{columns_of, repeated, repeated_from}
use Rattle.csv_source.specs.Laws.{OneAnswer}
use Rattle.csv_source.specs.Table.{CsvTable}
use Rattle.csv_source.specs.declared.refusal.TableRefusal.{TableRefusal}
use Rattle.csv_source.specs.declared.refusal.TableRefusal.TheVariants.{TooLong, NoHeader, TooWide, RepeatedColumn, Ragged, BadCell, Memory}
use Rattle.csv_source.proofs.RowCauses.{row-bad-cell, row-ragged, rows-after, rows-hit}
use Rattle.csv_source.proofs.TableFacts.{file-long, file-records, no-header, repeats, row-wrong, table-good, too-wide}

-- ---- names

all-middle : (P : List ℕ → Type 0) (xs : List (List ℕ)) (y : List ℕ) (more : List (List ℕ)) → AllByRecursion P (xs ++ y ∷ more) → P y
all-middle P [] y more all = all.0
all-middle P (x ∷ xs) y more all = all-middle P xs y more all.1

apart-front : (earlier : List (List ℕ)) (y : List ℕ) (more : List (List ℕ)) → IsDistinct bytes_eq (earlier ++ y ∷ more) → list_any (bytes_eq y) earlier ≡ false
unfolding IsDistinct
apart-front [] y more differ = refl
apart-front (x ∷ xs) y more differ =
    let apart : bytes_eq x y ≡ false = all-middle (λ z. bytes_eq x z ≡ false) xs y more differ.0 in
    or_from (bytes_eq y x) (list_any (bytes_eq y) xs) (nat_list_eq_equiv.symm y x ∙ apart) (apart-front xs y more differ.1)

distinct-none : (number : ℕ) (earlier : List (List ℕ)) (columns : List Column) → IsDistinct bytes_eq (earlier ++ names columns) → repeated_from number earlier columns ≡ None
unfolding repeated_from
distinct-none number earlier [] differ = refl
distinct-none number earlier (c ∷ columns) differ =
    rw (apart-front earlier c.name (names columns) differ)
    (distinct-none (number + 1) (earlier ++ c.name ∷ []) columns (rw (append_assoc earlier (c.name ∷ []) (names columns)) differ))

distinct-some : (number : ℕ) (earlier : List (List ℕ)) (before : List Column) (column : Column) (after : List Column) → IsDistinct bytes_eq (earlier ++ names before)
    → list_any (bytes_eq column.name) (earlier ++ names before) ≡ true → repeated_from number earlier (before ++ column ∷ after) ≡ Some (number + length before)
unfolding repeated_from
distinct-some number earlier [] column after differ again =
    let here : list_any (bytes_eq column.name) earlier ≡ true = rw (append-nil earlier) at again in
    let count : number + 0 ≡ number = omega arith in
    rw (here, count) refl
distinct-some number earlier (b ∷ before) column after differ again =
    let all : (earlier ++ b.name ∷ []) ++ names before ≡ earlier ++ b.name ∷ names before = append_assoc earlier (b.name ∷ []) (names before) in
    let count : number + 1 + length before ≡ number + suc (length before) = omega arith in
    rw (apart-front earlier b.name (names before) differ)
    (distinct-some (number + 1) (earlier ++ b.name ∷ []) before column after (rw all differ) (rw all again) ∙ ap Some count)

repeat-is : (columns : List Column) (number : ℕ) → IsFirstRepeat columns number → repeated columns ≡ Some number
repeat-is columns number r =
    let count : 1 + length r.before ≡ number = omega (arith, r.count) in
    rw r.parts (distinct-some 1 [] r.before r.column r.after r.differ r.again ∙ ap Some count)

-- ---- cells and rows

bad-at : (number : ℕ) (columns : List Column) (fields : List (List ℕ)) (at : ℕ) (column : Column) (field : List ℕ) → slice_get columns at ≡ Some column → slice_get fields at ≡ Some field
    → is_cell column.base field ≡ false → is_row (take at columns) (take at fields) ≡ true → bad_column number columns fields ≡ Some (number + at)
unfolding bad_column is_row
bad-at number [] fields at column field here there bad good = cc here
bad-at number (c ∷ columns) [] at column field here there bad good = cc there
bad-at number (c ∷ columns) (f ∷ fields) zero column field here there bad good =
    let same : c ≡ column = cc here in
    let this : f ≡ field = cc there in
    let wrong : is_cell c.base f ≡ false = rw (same, this) bad in
    let count : number + 0 ≡ number = omega arith in
    rw (wrong, count) refl
bad-at number (c ∷ columns) (f ∷ fields) (suc at) column field here there bad good =
    let (first, rest) = both_true (is_cell c.base f) (is_row (take at columns) (take at fields)) good in
    let count : number + 1 + at ≡ number + suc at = omega arith in
    rw first (bad-at (number + 1) columns fields at column field here there bad rest ∙ ap Some count)

cause-is : (columns : List Column) (row : ℕ) (fields : List (List ℕ)) (e : TableRefusal) → IsRowCause columns row fields e → row_cause columns row fields ≡ Some e
cause-is columns row fields (Ragged r) is =
    let other : (length fields == length columns) ≡ false = grind (arith, nat_tests, is.1) in
    row-ragged columns row fields other ∙ ap (λ k. Some (Ragged k)) (sym is.0)
cause-is columns row fields (BadCell r number) is =
    let same : (length fields == length columns) ≡ true = grind (arith, nat_tests, is.1) in
    let b = is.2 in
    let count : 1 + b.at ≡ number = omega (arith, b.count) in
    row-bad-cell columns row number fields same (bad-at 1 columns fields b.at b.column b.field b.column_is b.field_is b.bad b.good ∙ ap Some count) ∙ ap (λ k. Some (BadCell k number)) (sym is.0)
cause-is columns row fields TooLong is = absurd is
cause-is columns row fields NoHeader is = absurd is
cause-is columns row fields TooWide is = absurd is
cause-is columns row fields (RepeatedColumn number) is = absurd is
cause-is columns row fields Memory is = absurd is

row-is : (columns : List Column) (rows : List (List (List ℕ))) (e : TableRefusal) → IsFirstBadRow columns rows e → rows_cause columns 1 rows ≡ Some e
row-is columns rows e b =
    let count : 1 + length b.before ≡ length b.before + 1 = omega arith in
    rw b.parts (rows-after columns 1 b.before (b.fields ∷ b.after) b.good
    ∙ rw count (rows-hit columns (length b.before + 1) b.fields b.after e (cause-is columns (length b.before + 1) b.fields e b.bad)))

-- ---- files

table-is : (file_name bytes : List ℕ) (t : CsvTable) → IsTableOf file_name bytes t → table_of file_name bytes ≡ Ok t
table-is file_name bytes t is =
    file-records file_name bytes is.begins.short
    ∙ table-good file_name (csv_records bytes) is.header is.rows is.is_header.few (distinct-none 1 [] (columns_of is.header) is.is_header.differ) is.begins.parts is.are_rows
    ∙ ap Ok (sym is.is_table)

of-row : (file_name bytes : List ℕ) (header : List (List ℕ)) (rows : List (List (List ℕ))) (e : TableRefusal) → Begins bytes header rows → IsHeader header → IsFirstBadRow (columns_of header) rows e → table_of file_name bytes ≡ Err e
of-row file_name bytes header rows e begins is bad =
    file-records file_name bytes begins.short
    ∙ row-wrong file_name (csv_records bytes) header e is.few (distinct-none 1 [] (columns_of header) is.differ) (record { rows = rows; behind = begins.parts; bad = row-is (columns_of header) rows e bad })

first-is : (file_name bytes : List ℕ) (e : TableRefusal) → IsFirstCause bytes e → table_of file_name bytes ≡ Err e
first-is file_name bytes TooLong is = file-long file_name bytes is
first-is file_name bytes NoHeader is = file-records file_name bytes is.0 ∙ no-header file_name (csv_records bytes) is.1
first-is file_name bytes TooWide is = file-records file_name bytes is.2.short ∙ too-wide file_name (csv_records bytes) is.0 is.1 is.2.parts is.3
first-is file_name bytes (RepeatedColumn number) is =
    file-records file_name bytes is.2.short ∙ repeats file_name (csv_records bytes) is.0 is.1 number is.2.parts is.3 (repeat-is (columns_of is.0) number is.4)
first-is file_name bytes (Ragged row) is = of-row file_name bytes is.0 is.1 (Ragged row) is.2 is.3 is.4
first-is file_name bytes (BadCell row number) is = of-row file_name bytes is.0 is.1 (BadCell row number) is.2 is.3 is.4
first-is file_name bytes Memory is = absurd is

pub one-answer : OneAnswer
one-answer file_name bytes = (table-is file_name bytes, first-is file_name bytes)
