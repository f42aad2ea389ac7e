use Rattle.saved_source.proofs.RenamedLists.{renamed_more, renamed_whole}
use Rattle.saved_source.proofs.renamed.+renaming.Goals as goal

pub members-loop-decl-preserved : goal.members-loop-decl-preserved
members-loop-decl-preserved t c =
    renamed_more c.loop-decl.renamed c.push.new.self c.args.decls.now c.loop-decl.decl-index c.decl-item.result c.in_ok-member.field-0 c.loop-decl-test.true c.decl-item.is c.in_ok-push.ensures.ok c.loop-decl.invariant c.in_ok-member.ensures

pub members-returns : goal.members-returns
members-returns t c = renamed_whole c.loop-decl.renamed c.args.decls.now c.loop-decl.decl-index c.loop-decl-test.false c.loop-decl.invariant
