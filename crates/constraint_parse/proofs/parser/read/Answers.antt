use Rattle.std.proofs.Common.{refl}
use Rattle.std.proofs.lemmas.Result.{err_from_is_err_and}
use Rattle.constraint_parse.specs.inner.Machine.{Start, tree_of}
use Rattle.constraint_parse.proofs.Places.{starts, accepts}
use Rattle.constraint_parse.proofs.Moves.{clausal_faults}
use Rattle.constraint_parse.proofs.parser.read.Goals as goal

pub returns-in_err-items : goal.returns-in_err-items
returns-in_err-items c =
    let p = err_from_is_err_and c.from_residual.result c.from_residual.ensures.1 in
    rw (p.1, p.2) (c.in_err-items.ensures.spelled (c.skip_blanks-start.ensures.stands Start (starts c.args.text.now)))

pub returns-in_err-clauses : goal.returns-in_err-clauses
returns-in_err-clauses c =
    let (items, vi, st) = c.in_ok-items.ensures.spelled (c.skip_blanks-start.ensures.stands Start (starts c.args.text.now)) in
    let p = err_from_is_err_and c.from_residual-in_err-clauses.result c.from_residual-in_err-clauses.ensures.1 in
    rw (p.1, p.2) (c.in_err-clauses.ensures.spelled items st)

pub returns-then-at-text : goal.returns-then-at-text
returns-then-at-text c =
    let (items, vi, st) = c.in_ok-items.ensures.spelled (c.skip_blanks-start.ensures.stands Start (starts c.args.text.now)) in
    let (clauses, vc, st') = c.in_ok-clauses.ensures.spelled items st in
    rw c.at.ensures (clausal_faults st' c.in_ok-clauses.ensures.onward c.if-at-text.true c.in_ok-clauses.ensures.no_clause)

pub returns : goal.returns
returns c =
    let (items, vi, st) = c.in_ok-items.ensures.spelled (c.skip_blanks-start.ensures.stands Start (starts c.args.text.now)) in
    let (clauses, vc, st') = c.in_ok-clauses.ensures.spelled items st in
    (tree_of items clauses, accepts st' c.if-at-text.false refl, rw (vi, vc) refl)
