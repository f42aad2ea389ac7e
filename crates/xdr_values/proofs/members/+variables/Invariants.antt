use Rattle.std.proofs.Common.{ℕ, List, drop}
use Rattle.dap_types.specs.Model.{Tree}
use Rattle.dap_types.specs.View.{members_view}
use Rattle.xdr_values.proofs.Variables.{MembersLeft}
use Rattle.xdr_values.specs.Walked.{StandAll}
use Rattle.xdr_values.proofs.members.+variables.Given as goal

abbrev pub invariant-behind_members-loop-decl : goal.invariant-behind_members-loop-decl
invariant-behind_members-loop-decl l = (ts : List Tree) (rest : List ℕ) → StandAll (members_view l.decls) ts l.bytes rest → MembersLeft (members_view (drop l.decl-index l.decls)) l.rest rest
