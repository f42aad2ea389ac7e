-- What constraints promise of the indexes, the rows and the names that they leave.
use Rattle.std.specs.Prelude.{◌≡◌, ℕ, ◌+◌, ◌-◌, ◌%◌, ◌<◌, ◌≤◌, ◌==◌, ◌&&◌, true, List, [], ◌∷◌, ◌++◌, filter, length, Some, slice_get}
use Rattle.std.specs.List.{range_with_len}
use Rattle.dap_types.specs.Model.{Dataset, Tree, one, kids}
use Rattle.dap_types.specs.declared.values.Value.{Value}
use Rattle.dap_model.specs.Cutting.{IsWithin, bracketed, indexes}
use Rattle.dap_model.specs.Filter.{Marks, constrained}
use Rattle.dap_model.specs.Grammar.{HasWords}
use Rattle.dap_model.specs.Rows.{Selection, holds, kept}

-- [start:stride:stop] picks each index from start to stop whose distance from start the stride divides
abbrev pub BracketsPick : Type 0
BracketsPick = (start stride stop : ℕ) → 1 ≤ stride → start ≤ stop →
    indexes (bracketed start stride stop) ≡ filter (λ i. (i - start) % stride == 0) (range_with_len start (stop - start + 1))

-- where the stop is an index, so is each that is picked
abbrev pub BracketsAreWithin : Type 0
BracketsAreWithin = (start stride stop n : ℕ) → 1 ≤ stride → start ≤ stop → stop < n → IsWithin (bracketed start stride stop) n

-- clauses keep the rows that each of them keeps, and none keep every row
abbrev pub EachClauseKeeps : Type 0
EachClauseKeeps = (clauses more : List Selection) (n : ℕ) (row : Tree) →
    (kept [] n row ≡ true) × (kept (clauses ++ more) n row ≡ (kept clauses n row && kept more n row))

-- a clause keeps the rows whose cell of its column stands in its relation to one of its values, and
-- every row of a Sequence that has no such column
abbrev pub ClauseKeeps : Type 0
ClauseKeeps = (clause : Selection) (n : ℕ) (row : Tree) →
    ((k : ℕ) (v : Value) → clause.column ≡ n + 1 + k → slice_get (kids row) k ≡ Some (one v) → kept (clause ∷ []) n row ≡ holds clause v)
    × (clause.column ≤ n → kept (clause ∷ []) n row ≡ true)
    × (n + length (kids row) < clause.column → kept (clause ∷ []) n row ≡ true)

-- what is left of a dataset of words is one of words
abbrev pub ConstrainedHasWords : Type 0
ConstrainedHasWords = (marks : Marks) (d : Dataset) → HasWords d → HasWords (constrained marks d)
