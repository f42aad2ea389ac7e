use Rattle.std.proofs.Common.{[], Ok, Err, rules}
use Rattle.std.proofs.lemmas.Result.{err_from_is_err_and}
use Rattle.dap_types.proofs.Judging.{members-more, members-bad, members-bad_part, members-end, counted-more, parts-fit}
use Rattle.dap_types.specs.declared.declarations.Decl.{the_lemmas}
use Rattle.dap_types.proofs.well_formed.+checking.Goals as goal

pub check_level-returns-in_err-check_member : goal.check_level-returns-in_err-check_member
check_level-returns-in_err-check_member t c =
    let p = err_from_is_err_and c.from_residual.result c.from_residual.ensures.1 in
    rw (p.1, p.2) (c.loop-decl.invariant.judged (Err c.in_err-check_member.field-0.0)
    (members-bad c.args.decls.now c.loop-decl.decl-index c.args.depth c.loop-decl.number c.loop-decl.names c.decl-item.result c.loop-decl-test.true c.decl-item.is [] _ c.in_err-check_member.ensures))

pub check_level-returns-in_err-number : goal.check_level-returns-in_err-number
check_level-returns-in_err-number t c =
    let p = err_from_is_err_and c.from_residual-in_err-number.result c.from_residual-in_err-number.ensures.1 in
    rw (p.1, p.2) (c.loop-decl.invariant.judged (Err c.in_err-number.field-0.0)
    (members-bad_part c.args.decls.now c.loop-decl.decl-index c.args.depth c.loop-decl.number c.loop-decl.names c.decl-item.result c.loop-decl-test.true c.decl-item.is
    c.check_member.new.names _ c.in_ok-check_member.ensures c.in_err-number.ensures))

pub check_level-loop-decl-preserved : goal.check_level-loop-decl-preserved
check_level-loop-decl-preserved t c = record {
  counted = counted-more c.args.decls.now c.loop-decl.decl-index c.args.depth c.loop-decl.number c.loop-decl.names c.decl-item.result c.loop-decl-test.true c.decl-item.is c.check_member.new.names
      c.in_ok-number.number _ c.in_ok-number.ensures.0 c.loop-decl.invariant.counted;
  judged = λ r more. c.loop-decl.invariant.judged r
      (members-more c.args.decls.now c.loop-decl.decl-index c.args.depth c.loop-decl.number c.loop-decl.names c.decl-item.result c.loop-decl-test.true c.decl-item.is
      c.check_member.new.names c.in_ok-number.number r c.in_ok-check_member.ensures c.in_ok-number.ensures more);
}

pub check_level-returns : goal.check_level-returns
check_level-returns t c = c.loop-decl.invariant.judged (Ok c.loop-decl.number)
    (members-end c.args.decls.now c.loop-decl.decl-index c.args.depth c.loop-decl.number c.loop-decl.names c.loop-decl-test.false)

pub check_parts-check_level-requires : goal.check_parts-check_level-requires
check_parts-check_level-requires t c = (search (rules, the_lemmas), parts-fit c.args.decl.now c.in-Structure.field-0 c.in-Structure.parts c.items.result.now c.args.first c.in-Structure.is c.items.ensures c.requires)
