-- What the clauses of a selection keep.
use Rattle.std.proofs.Common.{◌≡◌, ℕ, ◌+◌, ◌-◌, ◌<◌, ◌≤◌, ◌&&◌, true, false, cond, ltb, List, [], ◌∷◌, ◌++◌, length, Option, Some, None, slice_get, refl, ap, ◌∙◌, arith}
use Rattle.std.specs.List.{list_any}
use Rattle.std.specs.Option.{option_map_or}
use Rattle.std.proofs.lemmas.Bool.{le-ltb, lt-ltb}
use Rattle.std.proofs.lemmas.List.Folds.{list_all-append}
use Rattle.std.proofs.lemmas.Option.{slice_get_past}
use Rattle.plain_lemmas.proofs.Truths.{and_true, or_false}
use Rattle.dap_types.specs.Model.{Tree, one, kids}
use Rattle.dap_types.specs.declared.values.Value.{Value}
use Rattle.dap_model.specs.Fits.{values_in}
use Rattle.dap_model.specs.Rows.{Selection, cell_at, holds, kept}

pub each_clause_keeps : (clauses more : List Selection) (n : ℕ) (row : Tree) → (kept [] n row ≡ true) × (kept (clauses ++ more) n row ≡ (kept clauses n row && kept more n row))
each_clause_keeps clauses more n row = (refl, list_all-append (λ clause. option_map_or (λ cell. list_any (holds clause) (values_in cell)) (cell_at n row clause.column) true) clauses more)

-- a clause by the cell of its column
by_cell : (clause : Selection) (n : ℕ) (row : Tree) (o : Option Tree) → cell_at n row clause.column ≡ o
    → kept (clause ∷ []) n row ≡ option_map_or (λ cell. list_any (holds clause) (values_in cell)) o true
by_cell clause n row o is = and_true (option_map_or (λ cell. list_any (holds clause) (values_in cell)) (cell_at n row clause.column) true) ∙ ap (λ c. option_map_or (λ cell. list_any (holds clause) (values_in cell)) c true) is

-- the cell of a column by its place behind the Sequence
cell_there : (n k at : ℕ) (row : Tree) → at ≡ n + 1 + k → cell_at n row at ≡ slice_get (kids row) k
cell_there n k at row is =
    let behind : ltb n at ≡ true = lt-ltb n at (omega (arith, is)) in
    let place : at - (n + 1) ≡ k = omega (arith, is) in
    ap (λ b. cond b (slice_get (kids row) (at - (n + 1))) None) behind ∙ ap (slice_get (kids row)) place

pub clause_keeps : (clause : Selection) (n : ℕ) (row : Tree) →
    ((k : ℕ) (v : Value) → clause.column ≡ n + 1 + k → slice_get (kids row) k ≡ Some (one v) → kept (clause ∷ []) n row ≡ holds clause v)
    × (clause.column ≤ n → kept (clause ∷ []) n row ≡ true)
    × (n + length (kids row) < clause.column → kept (clause ∷ []) n row ≡ true)
clause_keeps clause n row = (
  λ k v at cell. by_cell clause n row (Some (one v)) (cell_there n k clause.column row at ∙ cell) ∙ or_false (holds clause v),
  λ before. by_cell clause n row None (let outside : ltb n clause.column ≡ false = le-ltb n clause.column before in ap (λ b. cond b (slice_get (kids row) (clause.column - (n + 1))) None) outside),
  λ behind. let k : ℕ = clause.column - (n + 1) in
      by_cell clause n row None (cell_there n k clause.column row (omega (arith, behind)) ∙ slice_get_past (kids row) k (omega (arith, behind))),
)
