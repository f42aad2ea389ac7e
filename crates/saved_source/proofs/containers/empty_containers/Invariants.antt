use Rattle.std.proofs.Common.{◌≡◌, map, take}
use Rattle.dap_types.specs.View.{member_view}
use Rattle.das_text.specs.View.{entry_view}
use Rattle.saved_source.proofs.NoContainers.{empty_of}
use Rattle.saved_source.proofs.containers.empty_containers.Given as goal

abbrev pub invariant-loop-decl : goal.invariant-loop-decl
invariant-loop-decl l = map entry_view l.containers ≡ map empty_of (map member_view (take l.decl-index l.decls))
