use mir.Val.{bool_byte}
use Rattle.std.proofs.Common.{◌≡◌, ◌+◌, ◌<◌, ◌≤◌, Bool, true, false, cond, length, Some, refl, sym, ap, ◌∙◌, subst, arith}
use Rattle.grid_projection.specs.Resolved.{marks_in}
use Rattle.xdr_encode.proofs.Gathering.{same_err}
use Rattle.join_source.proofs.Gathered.{all-asked, all-small, all-text, nothing-yet, one-more, too-large}
use Rattle.join_source.proofs.Marked.{slots-same}
use Rattle.join_source.specs.Members.{contents_of}
use Rattle.join_source.specs.Wanted.{Gathered, joined_slots}
use Rattle.join_source.proofs.pieces.marked_pieces.Goals as goal

pub loop-k-init : goal.loop-k-init
loop-k-init c = subst (λ ps. Gathered c.args.headers.now (marks_in c.args.marks.now) ps 0 0) (sym c.new-pieces.ensures) (nothing-yet c.args.headers.now (marks_in c.args.marks.now))

pub returns-in-Err-clause-refused : goal.returns-in-Err-clause-refused
returns-in-Err-clause-refused c = λ leaf e.
    let slots = slots-same c.args.headers.now (marks_in c.args.marks.now) 0 c.index-headers-0.result c.index-headers-0.is c.requires.some c.requires.can_join in
    let lt : c.loop-k.k < length (joined_slots (contents_of c.args.headers.now)) = omega (arith, ap length slots, c.members-k-end.ensures, c.loop-k-test.true) in
    let large = c.in-Err.ensures.refused leaf (same_err c.in-Err.refusal _ e) in
    too-large c.args.headers.now (marks_in c.args.marks.now) c.loop-k.pieces c.loop-k.k c.loop-k.sent lt c.loop-k.invariant large.1 ∙ ap Some (sym large.0)

as-bit : (b : Bool) → bool_byte b ≡ cond b 1 0
as-bit true = refl
as-bit false = refl

pub loop-k-preserved : goal.loop-k-preserved
loop-k-preserved c =
    let slots = slots-same c.args.headers.now (marks_in c.args.marks.now) 0 c.index-headers-0.result c.index-headers-0.is c.requires.some c.requires.can_join in
    let lt : c.loop-k.k < length (joined_slots (contents_of c.args.headers.now)) = omega (arith, ap length slots, c.members-k-end.ensures, c.loop-k-test.true) in
    let found = c.in-Ok.ensures.found in
    subst (λ n. Gathered c.args.headers.now (marks_in c.args.marks.now) c.push_leaf.new.pieces (c.loop-k.k + 1) (c.loop-k.sent + n)) (sym (c.from-sent.ensures ∙ as-bit c.in-Ok.found))
    (subst (λ ps. Gathered c.args.headers.now (marks_in c.args.marks.now) ps (c.loop-k.k + 1) (c.loop-k.sent + cond c.in-Ok.found 1 0)) (sym found.1)
    (one-more c.args.headers.now (marks_in c.args.marks.now) c.loop-k.pieces c.loop-k.k c.loop-k.sent lt c.loop-k.invariant c.in-Ok.found found.0 found.2))

pub returns-clause-text : goal.returns-clause-text
returns-clause-text c =
    let slots = slots-same c.args.headers.now (marks_in c.args.marks.now) 0 c.index-headers-0.result c.index-headers-0.is c.requires.some c.requires.can_join in
    let le : length (joined_slots (contents_of c.args.headers.now)) ≤ c.loop-k.k = omega (arith, ap length slots, c.members-k-end.ensures, c.loop-k-test.false) in
    all-text c.args.headers.now (marks_in c.args.marks.now) c.loop-k.pieces c.loop-k.k c.loop-k.sent le c.loop-k.invariant

pub returns-clause-ok : goal.returns-clause-ok
returns-clause-ok c = λ e.
    let slots = slots-same c.args.headers.now (marks_in c.args.marks.now) 0 c.index-headers-0.result c.index-headers-0.is c.requires.some c.requires.can_join in
    let le : length (joined_slots (contents_of c.args.headers.now)) ≤ c.loop-k.k = omega (arith, ap length slots, c.members-k-end.ensures, c.loop-k-test.false) in
    all-small c.args.headers.now (marks_in c.args.marks.now) c.loop-k.pieces c.loop-k.k c.loop-k.sent le c.loop-k.invariant

pub returns-clause-asks : goal.returns-clause-asks
returns-clause-asks c =
    let slots = slots-same c.args.headers.now (marks_in c.args.marks.now) 0 c.index-headers-0.result c.index-headers-0.is c.requires.some c.requires.can_join in
    let le : length (joined_slots (contents_of c.args.headers.now)) ≤ c.loop-k.k = omega (arith, ap length slots, c.members-k-end.ensures, c.loop-k-test.false) in
    all-asked c.args.headers.now (marks_in c.args.marks.now) c.loop-k.pieces c.loop-k.k c.loop-k.sent le c.loop-k.invariant
