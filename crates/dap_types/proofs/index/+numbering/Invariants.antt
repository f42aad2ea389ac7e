use Rattle.std.proofs.Common.{◌≡◌, ℕ, ◌+◌, List, drop, Option}
use Rattle.dap_types.specs.Model.{count_all}
use Rattle.dap_types.specs.Numbered.{Adds, number_in, under}
use Rattle.dap_types.specs.View.{members_view}
use Rattle.dap_types.specs.WellFormed.{paths}
use Rattle.dap_types.proofs.index.+numbering.Given as goal

abbrev pub invariant-add_level-loop-decl : goal.invariant-add_level-loop-decl
invariant-add_level-loop-decl l = record {
  counted : l.number + count_all (members_view (drop l.decl-index l.decls)) ≡ l.fn.first + count_all (members_view l.decls);
  added : (new : List (List ℕ) → Option ℕ) → Adds (number_in l.index) new l.number (under l.whole (paths (members_view (drop l.decl-index l.decls))))
      → Adds (number_in l.fn.index) new l.fn.first (under l.whole (paths (members_view l.decls)));
}
