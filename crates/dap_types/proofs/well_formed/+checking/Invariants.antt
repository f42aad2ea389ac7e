use Rattle.std.proofs.Common.{◌≡◌, ℕ, ◌+◌, [], drop, Result}
use Rattle.dap_types.specs.Judged.{Judges}
use Rattle.dap_types.specs.Model.{count_all}
use Rattle.dap_types.specs.View.{members_view}
use Rattle.dap_types.specs.WellFormed.{places}
use Rattle.dap_types.specs.declared.unfit.Unfit.{Unfit}
use Rattle.dap_types.proofs.well_formed.+checking.Given as goal

abbrev pub invariant-check_level-loop-decl : goal.invariant-check_level-loop-decl
invariant-check_level-loop-decl l = record {
  counted : l.number + count_all (members_view (drop l.decl-index l.decls)) ≡ l.fn.first + count_all (members_view l.decls);
  judged : (r : Result ℕ Unfit) → Judges (places l.depth l.names (members_view (drop l.decl-index l.decls))) l.number r
      → Judges (places l.depth [] (members_view l.decls)) l.fn.first r;
}
