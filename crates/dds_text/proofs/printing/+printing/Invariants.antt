use Rattle.std.proofs.Common.{◌≡◌, ◌++◌, drop}
use Rattle.dap_types.specs.View.{members_view}
use Rattle.dap_model.specs.Dds.{members_text}
use Rattle.dds_text.proofs.printing.+printing.Given as goal

abbrev pub invariant-put_members-loop-decl : goal.invariant-put_members-loop-decl
invariant-put_members-loop-decl l =
    l.out.items ++ members_text l.depth (members_view (drop l.decl-index l.decls)) ≡ l.fn.out.items ++ members_text l.depth (members_view l.decls)
