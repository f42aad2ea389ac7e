-- A row and the clauses on other Sequences.
use Rattle.std.proofs.Common.{◌≡◌, ◌≤◌, ◌+◌, ◌-◌, ℕ, Bool, true, false, cond, List, [], ◌∷◌, length, None, refl, sym, ap, ◌∙◌, arith}
use Rattle.std.specs.Prelude.{◌&&◌, nat_lt, nat_le, filter}
use Rattle.std.specs.List.{list_any}
use Rattle.std.specs.Option.{option_map_or}
use Rattle.std.proofs.lemmas.Bool.Decides.{nat_tests}
use Rattle.std.proofs.lemmas.Option.{slice_get_past}
use Rattle.std.proofs.lemmas.Slice.Zip.{AllZip-long}
use Rattle.dap_model.specs.Fits.{FitsScalar, values_in}
use Rattle.dap_model.specs.Rows.{Selection, cell_at, holds, kept}
use Rattle.dap_types.specs.Model.{Tree, kids}
use Rattle.dap_types.specs.declared.declarations.Column.{Column}
use Rattle.sequence_select.specs.Laws.{is_on, OwnClausesDecide}

-- a clause on what is no column of the Sequence looks at no cell
no-cell : (n : ℕ) (columns : List Column) (row : Tree) → length (kids row) ≡ length columns → (k : ℕ) → (nat_lt n k && nat_le k (n + length columns)) ≡ false → cell_at n row k ≡ None
no-cell n columns row long k off = by (nat_lt n k) refl (nat_le k (n + length columns)) refl off
  where
    by : (a : Bool) → nat_lt n k ≡ a → (b : Bool) → nat_le k (n + length columns) ≡ b → (a && b) ≡ false → cell_at n row k ≡ None
    by false before b within is = rw before refl
    by true behind true within is = cc is
    by true behind false within is =
        let past : length (kids row) ≤ k - (n + 1) = grind (arith, nat_tests) in
        rw behind (slice_get_past (kids row) (k - (n + 1)) past)

own : (n : ℕ) (columns : List Column) (row : Tree) → length (kids row) ≡ length columns → (clauses : List Selection) → kept clauses n row ≡ kept (filter (is_on n columns) clauses) n row
own n columns row long [] = refl
own n columns row long (clause ∷ clauses) = by (is_on n columns clause) refl (own n columns row long clauses)
  where
    by : (b : Bool) → is_on n columns clause ≡ b → kept clauses n row ≡ kept (filter (is_on n columns) clauses) n row → kept (clause ∷ clauses) n row ≡ kept (cond b (clause ∷ filter (is_on n columns) clauses) (filter (is_on n columns) clauses)) n row
    by true on later = ap (λ b. option_map_or (λ cell. list_any (holds clause) (values_in cell)) (cell_at n row clause.column) true && b) later
    by false off later = rw (no-cell n columns row long clause.column off) later

pub own-clauses-decide : OwnClausesDecide
own-clauses-decide n columns row clauses others fits same =
    let long : length (kids row) ≡ length columns = AllZip-long (λ c t. FitsScalar c.base t) columns (kids row) fits.1 in
    own n columns row long clauses ∙ ap (λ own_ones. kept own_ones n row) same ∙ sym (own n columns row long others)
