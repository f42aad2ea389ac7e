-- What a file is whose table is known.
use Rattle.std.proofs.Common.{◌≡◌, ◌≤◌, ℕ, Bool, true, false, List, [], ◌∷◌, Some, None, length, map, refl, arith}
use Rattle.std.specs.Prelude.{nat_lt, if◌then◌else◌, Option, option_map, Ok, Err}
use Rattle.std.specs.List.{list_all}
use Rattle.std.specs.Option.{option_or}
use Rattle.std.proofs.lemmas.Bool.Decides.{nat_tests}
use Rattle.csv_source.specs.Causes.{is_row, ok_unless, row_values, rows_cause, table_cause, table_of, table_of_records}
use Rattle.csv_source.specs.Csv.{csv_records}
use Rattle.csv_source.specs.Header.{columns_of, repeated}
use Rattle.csv_source.specs.Table.{CsvTable, table}
use Rattle.csv_source.specs.declared.refusal.TableRefusal.{TableRefusal}
use Rattle.csv_source.specs.declared.refusal.TableRefusal.TheVariants.{RepeatedColumn, TooLong, TooWide}
use Rattle.csv_source.proofs.RowCauses.{rows-clean}

-- the table is that of these records
pub record IsOfRecords (file_name : List ℕ) (records : List (List (List ℕ))) (t : CsvTable) : Type 0 where
  pub header : List (List ℕ)
  pub rows : List (List (List ℕ))
  pub parts : records ≡ header ∷ rows
  pub few : length header ≤ 1024
  pub once : repeated (columns_of header) ≡ None
  pub are_rows : list_all (is_row (columns_of header)) rows ≡ true
  pub is_table : t ≡ table file_name (columns_of header) (map (row_values (columns_of header)) rows)

no-cause : (o p : Option TableRefusal) → option_or o p ≡ None → (o ≡ None) × (p ≡ None)
no-cause None p is = (refl, is)
no-cause (Some e) p is = cc is

no-number : (o : Option ℕ) → option_map (λ k. RepeatedColumn k) o ≡ None → o ≡ None
no-number None is = refl
no-number (Some k) is = cc is

of-cause : (file_name : List ℕ) (header : List (List ℕ)) (rows : List (List (List ℕ))) (t : CsvTable) → length header ≤ 1024 → (o : Option TableRefusal) → table_cause (columns_of header) rows ≡ o
    → ok_unless o (table file_name (columns_of header) (map (row_values (columns_of header)) rows)) ≡ Ok t → IsOfRecords file_name (header ∷ rows) t
of-cause file_name header rows t few (Some e) none is = cc is
of-cause file_name header rows t few None none is =
    let (once, clean) = no-cause (option_map (λ k. RepeatedColumn k) (repeated (columns_of header))) (rows_cause (columns_of header) 1 rows) none in
    record { header = header; rows = rows; parts = refl; few = few; once = no-number (repeated (columns_of header)) once; are_rows = rows-clean (columns_of header) 1 rows clean; is_table = cc is }

of-records : (file_name : List ℕ) (records : List (List (List ℕ))) (t : CsvTable) → table_of_records file_name records ≡ Ok t → IsOfRecords file_name records t
unfolding table_of_records
of-records file_name [] t is = cc is
of-records file_name (header ∷ rows) t is = by_test (nat_lt 1024 (length header)) refl is
  where
    by_test : (b : Bool) → nat_lt 1024 (length header) ≡ b
        → (if b then Err TooWide else ok_unless (table_cause (columns_of header) rows) (table file_name (columns_of header) (map (row_values (columns_of header)) rows))) ≡ Ok t
        → IsOfRecords file_name (header ∷ rows) t
    by_test true wide same = cc same
    by_test false wide same = of-cause file_name header rows t (grind (arith, nat_tests, wide)) (table_cause (columns_of header) rows) refl same

-- the file is not too long, and the table is that of its records
pub of-file : (file_name bytes : List ℕ) (t : CsvTable) → table_of file_name bytes ≡ Ok t → (length bytes ≤ 67108864) × IsOfRecords file_name (csv_records bytes) t
unfolding table_of
of-file file_name bytes t is = by_test (nat_lt 67108864 (length bytes)) refl is
  where
    by_test : (b : Bool) → nat_lt 67108864 (length bytes) ≡ b → (if b then Err TooLong else table_of_records file_name (csv_records bytes)) ≡ Ok t
        → (length bytes ≤ 67108864) × IsOfRecords file_name (csv_records bytes) t
    by_test true long same = cc same
    by_test false long same = (grind (arith, nat_tests, long), of-records file_name (csv_records bytes) t same)
