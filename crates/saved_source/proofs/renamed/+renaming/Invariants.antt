use Rattle.std.proofs.Common.{◌≡◌, map, take}
use Rattle.dap_types.specs.View.{member_view}
use Rattle.saved_source.specs.Responses.{renamed}
use Rattle.saved_source.proofs.renamed.+renaming.Given as goal

abbrev pub invariant-members-loop-decl : goal.invariant-members-loop-decl
invariant-members-loop-decl l = map member_view l.renamed ≡ map renamed (map member_view (take l.decl-index l.decls))
