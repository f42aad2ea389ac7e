use Rattle.std.proofs.Common.{◌≡◌, ℕ, ◌+◌, List, [], ◌∷◌, drop, map, Option}
use Rattle.dap_types.specs.Numbered.{Adds, number_in, under}
use Rattle.dap_types.proofs.index.add_columns.Given as goal

abbrev pub invariant-loop-column : goal.invariant-loop-column
invariant-loop-column l = record {
  counted : l.number ≡ l.fn.first + l.column-index;
  added : (new : List (List ℕ) → Option ℕ) → Adds (number_in l.index) new l.number (under l.whole (map (λ x. x.name ∷ []) (drop l.column-index l.columns)))
      → Adds (number_in l.fn.index) new l.fn.first (under l.whole (map (λ x. x.name ∷ []) l.columns));
}
