-- The values of a table are values of its dataset.
use Rattle.std.proofs.Common.{◌≡◌, ◌<◌, ◌^◌, ℕ, true, List, [], ◌∷◌, length, map, ap, sym, subst, arith}
use Rattle.std.specs.Prelude.{All, Ok}
use Rattle.std.specs.List.{AllZip, list_all}
use Rattle.std.proofs.lemmas.List.Elements.{All-cons, All-nil}
use Rattle.plain_lemmas.proofs.Truths.{both_true}
use Rattle.dap_types.proofs.Views.{items-trees_of}
use Rattle.dap_types.specs.Model.{one}
use Rattle.dap_types.specs.declared.declarations.Column.{Column}
use Rattle.dap_model.specs.Fits.{FitsAll, FitsRow, FitsScalar}
use Rattle.csv_source.specs.Csv.{csv_records}
use Rattle.csv_source.specs.Dataset.{row_tree, table_dataset, table_trees}
use Rattle.csv_source.specs.Causes.{is_row, row_values, table_of}
use Rattle.csv_source.specs.Cells.{is_cell}
use Rattle.csv_source.specs.Header.{columns_of}
use Rattle.csv_source.specs.Table.{CsvTable, table}
use Rattle.csv_source.proofs.CellFacts.{cell-fits}
use Rattle.csv_source.proofs.Sizes.{is_within}
use Rattle.csv_source.proofs.Tabled.{of-file}
use Rattle.csv_source.proofs.Within.{are_within, csv-within}

-- a field that is no longer than a file is a String
short-field : (field : List ℕ) → is_within 67108864 field ≡ true → length field < 2 ^ 31
short-field field is = grind (arith, is)

cells-fit : (columns : List Column) (fields : List (List ℕ)) → is_row columns fields ≡ true → list_all (is_within 67108864) fields ≡ true
    → AllZip (λ c t. FitsScalar c.base t) columns (map one (row_values columns fields))
unfolding is_row row_values
cells-fit [] fields row short = tt
cells-fit (c ∷ columns) [] row short = cc row
cells-fit (c ∷ columns) (field ∷ fields) row short =
    let (cell, cells) = both_true (is_cell c.base field) (is_row columns fields) row in
    let (here, rest) = both_true (is_within 67108864 field) (list_all (is_within 67108864) fields) short in (
      cell-fits c.base field cell (short-field field here),
      cells-fit columns fields cells rest,
    )

row-fits : (columns : List Column) (fields : List (List ℕ)) → is_row columns fields ≡ true → list_all (is_within 67108864) fields ≡ true
    → FitsRow columns (row_tree (row_values columns fields))
row-fits columns fields row short =
    (tt, subst (AllZip (λ c t. FitsScalar c.base t) columns) (sym (items-trees_of (map one (row_values columns fields)))) (cells-fit columns fields row short))

rows-fit : (columns : List Column) (rows : List (List (List ℕ))) → list_all (is_row columns) rows ≡ true → are_within 67108864 rows ≡ true
    → All (FitsRow columns) (map row_tree (map (row_values columns) rows))
rows-fit columns [] are short = All-nil (FitsRow columns)
rows-fit columns (fields ∷ rows) are short =
    let (row, others) = both_true (is_row columns fields) (list_all (is_row columns) rows) are in
    let (here, rest) = both_true (list_all (is_within 67108864) fields) (are_within 67108864 rows) short in
    All-cons (FitsRow columns) (row_tree (row_values columns fields)) (map row_tree (map (row_values columns) rows)) (row-fits columns fields row here) (rows-fit columns rows others rest)

-- all rows of a table of such records
table-fits : (file_name : List ℕ) (columns : List Column) (rows : List (List (List ℕ))) → list_all (is_row columns) rows ≡ true → are_within 67108864 rows ≡ true
    → FitsAll (table_dataset (table file_name columns (map (row_values columns) rows))).members (table_trees (table file_name columns (map (row_values columns) rows)))
table-fits file_name columns rows are short =
    ((tt, subst (All (FitsRow columns)) (sym (items-trees_of (map row_tree (map (row_values columns) rows)))) (rows-fit columns rows are short)), tt)

rows-within : (records : List (List (List ℕ))) (header : List (List ℕ)) (rows : List (List (List ℕ))) → records ≡ header ∷ rows → are_within 67108864 records ≡ true → are_within 67108864 rows ≡ true
rows-within records header rows are short =
    let both_parts : are_within 67108864 (header ∷ rows) ≡ true = rw are at short in (both_true (list_all (is_within 67108864) header) (are_within 67108864 rows) both_parts).1

pub fits : (file_name bytes : List ℕ) (t : CsvTable) → table_of file_name bytes ≡ Ok t → FitsAll (table_dataset t).members (table_trees t)
fits file_name bytes t is =
    let (short, of) = of-file file_name bytes t is in
    let within = rows-within (csv_records bytes) of.header of.rows of.parts (csv-within 67108864 bytes short) in
    rw of.is_table (table-fits file_name (columns_of of.header) of.rows of.are_rows within)

-- the table is named as its file
pub named : (file_name bytes : List ℕ) (t : CsvTable) → table_of file_name bytes ≡ Ok t → t.file_name ≡ file_name
named file_name bytes t is = let (short, of) = of-file file_name bytes t is in ap (λ x. x.file_name) of.is_table
