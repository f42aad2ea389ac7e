use Rattle.std.proofs.Common.{◌≡◌, ◌+◌, length, drop}
use Rattle.dap_types.specs.View.{members_view}
use Rattle.dap_model.specs.Dds.{members_text}
use Rattle.dds_text.proofs.measure.+measuring.Given as goal

-- what is left, with what is spent on those so far
abbrev pub invariant-behind_members-loop-decl : goal.invariant-behind_members-loop-decl
invariant-behind_members-loop-decl l = l.fn.left + length (members_text l.depth (members_view (drop l.decl-index l.decls))) ≡ l.left + length (members_text l.depth (members_view l.decls))
