-- What the table of a file is, from what was read of it.
use Rattle.std.proofs.Common.{◌≡◌, ◌≤◌, ◌<◌, ◌+◌, ℕ, true, false, List, [], ◌∷◌, Some, None, length, map, refl, arith, ◌∙◌, ap, sym}
use Rattle.std.specs.Prelude.{nat_lt, option_map, Ok, Err}
use Rattle.std.specs.List.{list_all}
use Rattle.std.specs.Option.{option_or}
use Rattle.std.proofs.lemmas.Bool.Decides.{nat_tests}
use Rattle.std.proofs.lemmas.List.{append-nil}
use Rattle.dap_types.specs.declared.declarations.Column.{Column}
use Rattle.csv_source.specs.Causes.{is_row, ok_unless, row_values, rows_cause, table_cause, table_of, table_of_records}
use Rattle.csv_source.specs.Csv.{csv_records}
use Rattle.csv_source.specs.Header.{columns_of, repeated}
use Rattle.csv_source.specs.inner.Held.{held_rows, rows_of}
use Rattle.csv_source.specs.inner.Standing.{HasBadRow}
use Rattle.csv_source.specs.Table.{table}
use Rattle.csv_source.specs.declared.refusal.TableRefusal.{TableRefusal}
use Rattle.csv_source.specs.declared.refusal.TableRefusal.TheVariants.{NoHeader, RepeatedColumn, TooLong, TooWide}
use Rattle.csv_source.proofs.RowCauses.{rows-after, rows-none}

pub file-long : (file_name bytes : List ℕ) → 67108864 < length bytes → table_of file_name bytes ≡ Err TooLong
unfolding table_of
file-long file_name bytes long = let is : nat_lt 67108864 (length bytes) ≡ true = grind (arith, nat_tests, long) in rw is refl

pub file-records : (file_name bytes : List ℕ) → length bytes ≤ 67108864 → table_of file_name bytes ≡ table_of_records file_name (csv_records bytes)
unfolding table_of
file-records file_name bytes le = let is : nat_lt 67108864 (length bytes) ≡ false = grind (arith, nat_tests, le) in rw is refl

pub no-header : (file_name : List ℕ) (records : List (List (List ℕ))) → records ≡ [] → table_of_records file_name records ≡ Err NoHeader
unfolding table_of_records
no-header file_name records none = rw none refl

pub too-wide : (file_name : List ℕ) (records : List (List (List ℕ))) (header : List (List ℕ)) (rest : List (List (List ℕ))) → records ≡ header ∷ rest → 1024 < length header
    → table_of_records file_name records ≡ Err TooWide
unfolding table_of_records
too-wide file_name records header rest are wide = let is : nat_lt 1024 (length header) ≡ true = grind (arith, nat_tests, wide) in rw (are, is) refl

headed : (file_name : List ℕ) (header : List (List ℕ)) (rest : List (List (List ℕ))) → length header ≤ 1024
    → table_of_records file_name (header ∷ rest) ≡ ok_unless (table_cause (columns_of header) rest) (table file_name (columns_of header) (map (row_values (columns_of header)) rest))
unfolding table_of_records
headed file_name header rest le = let is : nat_lt 1024 (length header) ≡ false = grind (arith, nat_tests, le) in rw is refl

pub repeats : (file_name : List ℕ) (records : List (List (List ℕ))) (header : List (List ℕ)) (rest : List (List (List ℕ))) (number : ℕ) → records ≡ header ∷ rest → length header ≤ 1024
    → repeated (columns_of header) ≡ Some number → table_of_records file_name records ≡ Err (RepeatedColumn number)
repeats file_name records header rest number are le is =
    rw are (headed file_name header rest le ∙ ap (λ o. ok_unless (option_or (option_map (λ k. RepeatedColumn k) o) (rows_cause (columns_of header) 1 rest)) (table file_name (columns_of header) (map (row_values (columns_of header)) rest))) is)

pub row-wrong : (file_name : List ℕ) (records : List (List (List ℕ))) (header : List (List ℕ)) (cause : TableRefusal) → length header ≤ 1024 → repeated (columns_of header) ≡ None
    → HasBadRow (columns_of header) header cause records → table_of_records file_name records ≡ Err cause
row-wrong file_name records header cause le none bad =
    rw bad.behind (headed file_name header bad.rows le
    ∙ ap (λ o. ok_unless (option_or (option_map (λ k. RepeatedColumn k) o) (rows_cause (columns_of header) 1 bad.rows)) (table file_name (columns_of header) (map (row_values (columns_of header)) bad.rows))) none
    ∙ ap (λ o. ok_unless o (table file_name (columns_of header) (map (row_values (columns_of header)) bad.rows))) bad.bad)

rows-good : (columns : List Column) (rows : List (List (List ℕ))) → list_all (is_row columns) rows ≡ true → rows_cause columns 1 rows ≡ None
rows-good columns rows are = ap (rows_cause columns 1) (sym (append-nil rows)) ∙ rows-after columns 1 rows [] are ∙ rows-none columns (1 + length rows)

pub table-good : (file_name : List ℕ) (records : List (List (List ℕ))) (header : List (List ℕ)) (rest : List (List (List ℕ))) → length header ≤ 1024 → repeated (columns_of header) ≡ None
    → records ≡ header ∷ rest → list_all (is_row (columns_of header)) rest ≡ true
    → table_of_records file_name records ≡ Ok (table file_name (columns_of header) (map (row_values (columns_of header)) rest))
table-good file_name records header rest le none are are_rows =
    rw are (headed file_name header rest le
    ∙ ap (λ o. ok_unless (option_or (option_map (λ k. RepeatedColumn k) o) (rows_cause (columns_of header) 1 rest)) (table file_name (columns_of header) (map (row_values (columns_of header)) rest))) none
    ∙ ap (λ o. ok_unless o (table file_name (columns_of header) (map (row_values (columns_of header)) rest))) (rows-good (columns_of header) rest are_rows))

pub table-found : (file_name : List ℕ) (records : List (List (List ℕ))) (header : List (List ℕ)) (n : ℕ) (fields : List (List ℕ)) → length header ≤ 1024 → repeated (columns_of header) ≡ None
    → records ≡ header ∷ rows_of (length (columns_of header)) n fields → list_all (is_row (columns_of header)) (rows_of (length (columns_of header)) n fields) ≡ true
    → table_of_records file_name records ≡ Ok (table file_name (columns_of header) (held_rows (columns_of header) n fields))
unfolding held_rows
table-found file_name records header n fields le none are are_rows = table-good file_name records header (rows_of (length (columns_of header)) n fields) le none are are_rows
