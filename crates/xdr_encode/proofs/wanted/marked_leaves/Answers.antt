use Rattle.std.proofs.Common.{◌+◌, ◌<◌, Some, length, sym, ap, ◌∙◌, subst, arith}
use Rattle.grid_projection.specs.Resolved.{marks_in}
use Rattle.netcdf_source.specs.Mapping.{leaves_from}
use Rattle.xdr_encode.proofs.Gathering.{same_err, nothing_yet, one_more_found, is_too_large, all_asked, all_text, all_small}
use Rattle.xdr_encode.specs.Wanted.{Gathered}
use Rattle.xdr_encode.proofs.wanted.marked_leaves.Goals as goal

pub loop-k-init : goal.loop-k-init
loop-k-init c =
    subst (λ leaves. Gathered c.args.header.now.contents c.args.header.now.length (marks_in c.args.marks.now) leaves 0) (sym c.new-leaves.ensures) (nothing_yet c.args.header.now.contents c.args.header.now.length (marks_in c.args.marks.now))

pub returns-in-Err-clause-refused : goal.returns-in-Err-clause-refused
returns-in-Err-clause-refused c = λ leaf e.
    let lt : c.loop-k.k < length (leaves_from c.args.header.now.contents 0 c.args.header.now.contents.variables) = omega (arith, c.members-k-end.ensures, c.loop-k-test.true) in
    let large = c.in-Err.ensures.refused leaf (same_err c.in-Err.refusal _ e) in
    is_too_large c.args.header.now.contents c.args.header.now.length (marks_in c.args.marks.now) c.loop-k.leaves c.loop-k.k lt c.loop-k.invariant large.1 ∙ ap (λ ls. Some (length ls + 1)) (sym c.items.ensures) ∙ ap Some (sym large.0)

pub loop-k-preserved : goal.loop-k-preserved
loop-k-preserved c =
    let lt : c.loop-k.k < length (leaves_from c.args.header.now.contents 0 c.args.header.now.contents.variables) = omega (arith, c.members-k-end.ensures, c.loop-k-test.true) in
    subst (λ leaves. Gathered c.args.header.now.contents c.args.header.now.length (marks_in c.args.marks.now) leaves (c.loop-k.k + 1)) (sym c.in_ok-push_found.ensures)
    (one_more_found c.args.header.now.contents c.args.header.now.length (marks_in c.args.marks.now) c.loop-k.leaves c.loop-k.k lt c.loop-k.invariant c.in-Ok.found c.in-Ok.ensures.found)

pub returns-clause-text : goal.returns-clause-text
returns-clause-text c =
    all_text c.args.header.now.contents c.args.header.now.length (marks_in c.args.marks.now) c.loop-k.leaves c.loop-k.k (omega (arith, c.members-k-end.ensures, c.loop-k-test.false)) c.loop-k.invariant

pub returns-clause-ok : goal.returns-clause-ok
returns-clause-ok c = λ e.
    all_small c.args.header.now.contents c.args.header.now.length (marks_in c.args.marks.now) c.loop-k.leaves c.loop-k.k (omega (arith, c.members-k-end.ensures, c.loop-k-test.false)) c.loop-k.invariant

pub returns-clause-asks : goal.returns-clause-asks
returns-clause-asks c =
    all_asked c.args.header.now.contents c.args.header.now.length (marks_in c.args.marks.now) c.loop-k.leaves c.loop-k.k (omega (arith, c.members-k-end.ensures, c.loop-k-test.false)) c.loop-k.invariant
