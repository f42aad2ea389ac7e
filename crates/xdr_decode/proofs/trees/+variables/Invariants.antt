use Rattle.xdr_decode.proofs.Turns.{MembersRead}
use Rattle.xdr_decode.proofs.trees.+variables.Given as goal

abbrev pub invariant-members-loop-decl : goal.invariant-members-loop-decl
invariant-members-loop-decl l = MembersRead l.decls l.decl-index l.trees l.bytes l.rest
