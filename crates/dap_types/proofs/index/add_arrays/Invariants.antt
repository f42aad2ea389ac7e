use Rattle.std.proofs.Common.{◌≡◌, ℕ, ◌+◌, List, [], ◌∷◌, drop, map, Option}
use Rattle.dap_types.specs.Numbered.{Adds, number_in, under}
use Rattle.dap_types.proofs.index.add_arrays.Given as goal

abbrev pub invariant-loop-array : goal.invariant-loop-array
invariant-loop-array l = record {
  counted : l.number ≡ l.fn.first + l.array-index;
  added : (new : List (List ℕ) → Option ℕ) → Adds (number_in l.index) new l.number (under l.whole (map (λ x. x.name ∷ []) (drop l.array-index l.arrays)))
      → Adds (number_in l.fn.index) new l.fn.first (under l.whole (map (λ x. x.name ∷ []) l.arrays));
}
