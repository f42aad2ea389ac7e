use Rattle.std.proofs.Common.{◌≡◌, ◌≤◌, Bool, ◌&&◌, List, length, map, ◌∙◌, sym, false, eqb, leb, arith}
use Rattle.std.specs.List.{list_all}
use Rattle.std.proofs.lemmas.Bool.{le-leb}
use Rattle.std.proofs.lemmas.Bool.Decides.{nat_tests}
use Rattle.std.proofs.lemmas.List.Folds.{list_all-map}
use Rattle.dap_types.specs.declared.declarations.Dim.{Dim}
use Rattle.dap_types.proofs.well_formed.is_in_bounds.Goals as goal

by_parts : (dims : List Dim) (b : Bool) → 1 ≤ length dims → length dims ≤ 32 → b ≡ list_all (λ dim. leb dim.size 2147483647) dims
    → b ≡ (leb 1 (length dims) && leb (length dims) 32 && list_all (λ n. leb n 2147483647) (map (λ dim. dim.size) dims))
by_parts dims b some few is = rw (le-leb 1 (length dims) some, le-leb (length dims) 32 few) (is ∙ sym (list_all-map (λ n. leb n 2147483647) (λ dim. dim.size) dims))

some : (dims : List Dim) (b : Bool) → b ≡ eqb (length dims) 0 → b ≡ false → 1 ≤ length dims
some dims b is not_empty = let e : eqb (length dims) 0 ≡ false = sym is ∙ not_empty in grind (arith, nat_tests)

pub returns-then-dims-le-GREATEST_RANK : goal.returns-then-dims-le-GREATEST_RANK
returns-then-dims-le-GREATEST_RANK c =
    by_parts c.args.array.now.dims c.are_in_bounds.result (rw c.items-dims.ensures at (some c.items-dims.result.now c.is_empty.result c.is_empty.ensures c.if-dims-le-GREATEST_RANK.true.0))
    (rw c.items-dims.ensures at c.if-dims-le-GREATEST_RANK.true.1) (rw c.items-dims.ensures at c.are_in_bounds.ensures)
