-- How many members are still to be counted.
use Rattle.std.proofs.Common.{ℕ, ◌+◌, ◌*◌, List, sum_by}
use Rattle.std.specs.Borrow.{Bor}
use Rattle.dap_types.specs.Model.{count_all}
use Rattle.dap_types.specs.View.{members_view}
use Rattle.dap_types.specs.declared.declarations.Decl.{Decl}

abbrev pub left_in : Bor (List Decl) → ℕ
left_in level = count_all (members_view level.now)

abbrev pub left : List (Bor (List Decl)) → ℕ
left open-levels = sum_by left_in open-levels

-- each level and each member takes its step
abbrev pub steps : List (Bor (List Decl)) → ℕ
steps open-levels = sum_by (λ level. 2 * left_in level + 1) open-levels
