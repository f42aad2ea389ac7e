-- A walk over the rows that are sent of a table, and over the cells that are sent of a row.
use Rattle.std.proofs.Common.{◌≡◌, ℕ, ◌+◌, ◌<◌, ◌≤◌, Bool, true, false, cond, List, [], ◌∷◌, ◌++◌, All, length, get_or, drop, map, refl, sym, ap, ◌∙◌, arith, Some, slice_get}
use Rattle.std.proofs.lemmas.List.{drop_all, drop_more}
use Rattle.std.proofs.lemmas.Option.{slice_get-get_or}
use Rattle.std.specs.List.{flat_map}
use Rattle.std.specs.Option.{option_map_or, option_and_then}
use Rattle.csv_source.specs.Table.{CsvTable, value_at}
use Rattle.dap_model.proofs.Values.{bytes_of-append}
use Rattle.dap_model.specs.Xdr.{bytes_of, value_fields, cell_fields, mark}
use Rattle.dap_types.specs.Model.{one}
use Rattle.dap_types.specs.declared.declarations.BaseType.TheVariants.{Int32}
use Rattle.dap_types.specs.declared.declarations.Column.{Column}
use Rattle.dap_types.specs.declared.values.Value.{Value}
use Rattle.dap_types.specs.declared.values.Value.TheVariants as values
use Rattle.xdr_encode.proofs.RowSteps.{cell-bytes, end-bytes, row-bytes}
use Rattle.xdr_encode.specs.Masks.{masked}
use Rattle.xdr_encode.specs.Rows.{chosen_fields, row_at, rows_sent, rows_xdr}
use Rattle.xdr_encode.specs.RowSteps.{cell_sent, cells_from, row_sent, rows_from}
use Rattle.xdr_encode.specs.declared.kept.Rows.{Rows}

-- ---- cells

pub cell_unsent : (r : Rows) (row column : ℕ) → get_or r.columns column false ≡ false → cell_sent r row column ≡ []
unfolding cell_sent
cell_unsent r row column e = ap (λ b. cond b (option_map_or (λ v. bytes_of (value_fields Int32 v)) (value_at r.table row column) []) []) e

pub cell_is_sent : (r : Rows) (row column : ℕ) (v : Value) → get_or r.columns column false ≡ true → value_at r.table row column ≡ Some v → bytes_of (value_fields Int32 v) ≡ cell_sent r row column
unfolding cell_sent
cell_is_sent r row column v e is =
    sym (ap (λ b. cond b (option_map_or (λ v. bytes_of (value_fields Int32 v)) (value_at r.table row column) []) []) e
    ∙ ap (λ o. option_map_or (λ v. bytes_of (value_fields Int32 v)) o []) is)

row-of : (t : CsvTable) (row : ℕ) → row < length t.rows → row_at t row ≡ get_or t.rows row []
row-of t row lt = ap (λ o. option_map_or (λ values. values) o []) (slice_get-get_or t.rows row [] lt)

pub row-long : (t : CsvTable) (row : ℕ) → row < length t.rows → All (λ r. length r ≡ length t.columns) t.rows → length (row_at t row) ≡ length t.columns
row-long t row lt each = ap length (row-of t row lt) ∙ each row [] lt

pub cells_step : (r : Rows) (row i : ℕ) → row < length r.table.rows → All (λ v. length v ≡ length r.table.columns) r.table.rows → i < length r.table.columns
    → cells_from r row i ≡ cell_sent r row i ++ cells_from r row (i + 1)
unfolding cells_from cell_sent
cells_step r row i within each lt =
    ap (λ fs. bytes_of (cell_fields (masked fs (drop i r.table.columns)) (map one (masked fs (drop i (row_at r.table row)))))) (drop_more r.columns i false flags)
    ∙ ap (λ cs. bytes_of (cell_fields (masked (get_or r.columns i false ∷ drop (i + 1) r.columns) cs) (map one (masked (get_or r.columns i false ∷ drop (i + 1) r.columns) (drop i (row_at r.table row)))))) (drop_more r.table.columns i none lt)
    ∙ ap (λ vs. bytes_of (cell_fields (masked (get_or r.columns i false ∷ drop (i + 1) r.columns) (get_or r.table.columns i none ∷ drop (i + 1) r.table.columns)) (map one (masked (get_or r.columns i false ∷ drop (i + 1) r.columns) vs)))) (drop_more (row_at r.table row) i nothing cells)
    ∙ go (get_or r.columns i false)
  where
    none : Column
    none = record { name = []; base = Int32 }

    nothing : Value
    nothing = values.Text []

    flags : i < length r.columns
    flags = omega (arith, r.columns_len, lt)

    cells : i < length (row_at r.table row)
    cells = omega (arith, row-long r.table row within each, lt)

    value-is : value_at r.table row i ≡ Some (get_or (row_at r.table row) i nothing)
    value-is =
        ap (option_and_then (λ vs. slice_get vs i)) (slice_get-get_or r.table.rows row [] within)
        ∙ ap (λ vs. slice_get vs i) (sym (row-of r.table row within))
        ∙ slice_get-get_or (row_at r.table row) i nothing cells

    go : (b : Bool) →
        bytes_of (cell_fields (cond b (get_or r.table.columns i none ∷ masked (drop (i + 1) r.columns) (drop (i + 1) r.table.columns)) (masked (drop (i + 1) r.columns) (drop (i + 1) r.table.columns)))
        (map one (cond b (get_or (row_at r.table row) i nothing ∷ masked (drop (i + 1) r.columns) (drop (i + 1) (row_at r.table row))) (masked (drop (i + 1) r.columns) (drop (i + 1) (row_at r.table row))))))
        ≡ cond b (option_map_or (λ v. bytes_of (value_fields Int32 v)) (value_at r.table row i) []) []
        ++ bytes_of (cell_fields (masked (drop (i + 1) r.columns) (drop (i + 1) r.table.columns)) (map one (masked (drop (i + 1) r.columns) (drop (i + 1) (row_at r.table row)))))
    go true =
        cell-bytes (get_or r.table.columns i none) (get_or (row_at r.table row) i nothing) (masked (drop (i + 1) r.columns) (drop (i + 1) r.table.columns)) (masked (drop (i + 1) r.columns) (drop (i + 1) (row_at r.table row)))
        ∙ ap (λ o. option_map_or (λ v. bytes_of (value_fields Int32 v)) o [] ++ bytes_of (cell_fields (masked (drop (i + 1) r.columns) (drop (i + 1) r.table.columns)) (map one (masked (drop (i + 1) r.columns) (drop (i + 1) (row_at r.table row)))))) (sym value-is)
    go false = refl

masked-none : {X : Type 0} (flags : List Bool) → masked {X = X} flags [] ≡ []
masked-none [] = refl
masked-none (f ∷ flags) = refl

pub cells_end : (r : Rows) (row i : ℕ) → length r.table.columns ≤ i → cells_from r row i ≡ []
unfolding cells_from bytes_of
cells_end r row i le =
    ap (λ cs. bytes_of (cell_fields cs (map one (masked (drop i r.columns) (drop i (row_at r.table row)))))) (ap (masked (drop i r.columns)) (drop_all i r.table.columns le) ∙ masked-none (drop i r.columns))

pub row_parts : (r : Rows) (row : ℕ) → bytes_of (chosen_fields r.table.columns r.columns (row_at r.table row)) ≡ (0x5a ∷ 0 ∷ 0 ∷ 0 ∷ []) ++ cells_from r row 0
unfolding cells_from
row_parts r row = row-bytes (masked r.columns r.table.columns) (masked r.columns (row_at r.table row))

-- ---- rows

pub row_unsent : (r : Rows) (row : ℕ) → get_or r.mask row false ≡ false → row_sent r row ≡ []
unfolding row_sent
row_unsent r row e = ap (λ b. cond b (bytes_of (chosen_fields r.table.columns r.columns (row_at r.table row))) []) e

pub row_is_sent : (r : Rows) (row : ℕ) → get_or r.mask row false ≡ true → bytes_of (chosen_fields r.table.columns r.columns (row_at r.table row)) ≡ row_sent r row
unfolding row_sent
row_is_sent r row e = sym (ap (λ b. cond b (bytes_of (chosen_fields r.table.columns r.columns (row_at r.table row))) []) e)

pub rows_step : (r : Rows) (i : ℕ) → i < length r.table.rows → rows_from r i ≡ row_sent r i ++ rows_from r (i + 1)
unfolding rows_from row_sent
rows_step r i lt =
    ap (λ fs. bytes_of (flat_map (chosen_fields r.table.columns r.columns) (masked fs (drop i r.table.rows)))) (drop_more r.mask i false (omega (arith, r.mask_len, lt)))
    ∙ ap (λ rs. bytes_of (flat_map (chosen_fields r.table.columns r.columns) (masked (get_or r.mask i false ∷ drop (i + 1) r.mask) rs))) (drop_more r.table.rows i [] lt)
    ∙ go (get_or r.mask i false)
  where
    go : (b : Bool) →
        bytes_of (flat_map (chosen_fields r.table.columns r.columns) (cond b (get_or r.table.rows i [] ∷ masked (drop (i + 1) r.mask) (drop (i + 1) r.table.rows)) (masked (drop (i + 1) r.mask) (drop (i + 1) r.table.rows))))
        ≡ cond b (bytes_of (chosen_fields r.table.columns r.columns (row_at r.table i))) [] ++ bytes_of (flat_map (chosen_fields r.table.columns r.columns) (masked (drop (i + 1) r.mask) (drop (i + 1) r.table.rows)))
    go true =
        bytes_of-append (chosen_fields r.table.columns r.columns (get_or r.table.rows i [])) (flat_map (chosen_fields r.table.columns r.columns) (masked (drop (i + 1) r.mask) (drop (i + 1) r.table.rows)))
        ∙ ap (λ vs. bytes_of (chosen_fields r.table.columns r.columns vs) ++ bytes_of (flat_map (chosen_fields r.table.columns r.columns) (masked (drop (i + 1) r.mask) (drop (i + 1) r.table.rows)))) (sym (row-of r.table i lt))
    go false = refl

pub rows_end : (r : Rows) (i : ℕ) → length r.table.rows ≤ i → rows_from r i ≡ []
unfolding rows_from bytes_of
rows_end r i le = ap (λ rs. bytes_of (flat_map (chosen_fields r.table.columns r.columns) rs)) (ap (masked (drop i r.mask)) (drop_all i r.table.rows le) ∙ masked-none (drop i r.mask))

pub table_parts : (r : Rows) → rows_xdr r ≡ rows_from r 0 ++ (0xa5 ∷ 0 ∷ 0 ∷ 0 ∷ [])
unfolding rows_sent rows_from
table_parts r =
    bytes_of-append (flat_map (chosen_fields r.table.columns r.columns) (masked r.mask r.table.rows)) (mark 0xa5 ∷ [])
    ∙ ap (λ bs. bytes_of (flat_map (chosen_fields r.table.columns r.columns) (masked r.mask r.table.rows)) ++ bs) end-bytes
