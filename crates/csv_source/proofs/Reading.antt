-- The rows of a file, as they are read one after the other.
use Rattle.std.proofs.Common.{Bor, ◌≡◌, ◌≤◌, ◌+◌, ◌*◌, ℕ, true, List, [], ◌∷◌, ◌++◌, Some, length, refl, arith, length-append, append_assoc, ◌∙◌, ap}
use Rattle.std.specs.List.{list_all}
use Rattle.std.proofs.lemmas.List.Folds.{list_all-append}
use Rattle.csv.specs.declared.reader.Reader.{Reader}
use Rattle.dap_types.specs.declared.declarations.Column.{Column}
use Rattle.csv_source.specs.Causes.{is_row, row_cause}
use Rattle.csv_source.specs.Csv.{csv_records}
use Rattle.csv_source.specs.inner.Held.{rows_of, total, total_all}
use Rattle.csv_source.specs.inner.Standing.{HasBadRow, Stands}
use Rattle.csv_source.specs.declared.refusal.TableRefusal.{TableRefusal}
use Rattle.csv_source.proofs.KeptFields.{total_all-append, total_all-cons, total_all-one}
use Rattle.csv_source.proofs.RowCauses.{rows-after, rows-hit}
use Rattle.csv_source.proofs.Rows.{row-wide, rows_of-length, rows_of-push}
use Rattle.csv_source.proofs.Standings.{stands-count, stands-front, stands-total}

-- there is room for the bytes of one row more, and for its number
pub row-room : (bytes : List ℕ) (header : List (List ℕ)) (width n : ℕ) (fields row : List (List ℕ)) (reader : Reader (Bor (List ℕ)))
    → length bytes ≤ 67108864 → Stands bytes ((header ∷ rows_of width n fields) ++ row ∷ []) reader
    → (n + 1 ≤ 67108864) × (total_all (rows_of width n fields) + total row ≤ 67108864)
row-room bytes header width n fields row reader le stands =
    let count = stands-count bytes ((header ∷ rows_of width n fields) ++ row ∷ []) reader stands in
    let held = length-append (rows_of width n fields) (row ∷ []) in
    let all = stands-total bytes ((header ∷ rows_of width n fields) ++ row ∷ []) reader stands in
    let parts = total_all-append (header ∷ rows_of width n fields) (row ∷ []) in
    (omega (arith, count, held, rows_of-length width n fields, le), omega (arith, all, parts, total_all-cons header (rows_of width n fields), total_all-one row, le))

-- what a row more leaves
pub row-more : (bytes : List ℕ) (header : List (List ℕ)) (columns : List Column) (n : ℕ) (fields row pushed : List (List ℕ)) (reader : Reader (Bor (List ℕ)))
    → Stands bytes ((header ∷ rows_of (length columns) n fields) ++ row ∷ []) reader
    → length fields ≡ n * length columns → list_all (is_row columns) (rows_of (length columns) n fields) ≡ true
    → is_row columns row ≡ true → pushed ≡ fields ++ row
    → Stands bytes (header ∷ rows_of (length columns) (n + 1) pushed) reader × (length pushed ≡ (n + 1) * length columns)
    × (list_all (is_row columns) (rows_of (length columns) (n + 1) pushed) ≡ true)
    × (total_all (rows_of (length columns) (n + 1) pushed) ≡ total_all (rows_of (length columns) n fields) + total row)
row-more bytes header columns n fields row pushed reader stands long are_rows is same =
    let wide = row-wide columns row is in
    let push = rows_of-push (length columns) n fields row long wide in (
      rw (same, push) stands,
      rw (same, length-append fields row, wide, long) (grind arith),
      rw (same, push, list_all-append (is_row columns) (rows_of (length columns) n fields) (row ∷ []), are_rows, is) refl,
      rw (same, push, total_all-append (rows_of (length columns) n fields) (row ∷ []), total_all-one row) refl,
    )

-- a record that is no row
pub row-bad : (bytes : List ℕ) (header : List (List ℕ)) (columns : List Column) (rows : List (List (List ℕ))) (row : List (List ℕ)) (cause : TableRefusal) (number : ℕ) (reader : Reader (Bor (List ℕ)))
    → Stands bytes ((header ∷ rows) ++ row ∷ []) reader → list_all (is_row columns) rows ≡ true → number ≡ length rows + 1 → row_cause columns number row ≡ Some cause
    → HasBadRow columns header cause (csv_records bytes)
row-bad bytes header columns rows row cause number reader stands are is bad =
    let (rest, front) = stands-front bytes ((header ∷ rows) ++ row ∷ []) reader stands in
    let count : 1 + length rows ≡ number = omega (arith, is) in
    record {
      rows = rows ++ row ∷ rest;
      behind = front ∙ ap (λ xs. header ∷ xs) (append_assoc rows (row ∷ []) rest);
      bad = rows-after columns 1 rows (row ∷ rest) are ∙ rw count (rows-hit columns number row rest cause bad);
    }
