use Rattle.std.proofs.Common.{◌≤◌, [], append-nil, refl, subst, sym}
use Rattle.grid_projection.specs.Resolved.{marks_in}
use Rattle.xdr_encode.proofs.Gathering.{too_large_as}
use Rattle.join_source.proofs.Marked.{large-here, no-base, records-found, records-ready, whole-found, whole-ready}
use Rattle.join_source.proofs.pieces.push_leaf.Goals as goal

pub returns-in_default-base-clause-found : goal.returns-in_default-base-clause-found
returns-in_default-base-clause-found c = (
  [],
  sym (append-nil c.args.pieces.now),
  (no-base c.args.headers.now (marks_in c.args.marks.now) c.args.member c.index-headers-0.result c.index-headers-0.is c.requires.some c.requires.can_join c.in_default-base.ensures, refl),
)

pub returns-in-Err-clause-refused : goal.returns-in-Err-clause-refused
returns-in-Err-clause-refused c = λ leaf e. (
  too_large_as c.in-Err.refusal c.args.number leaf c.in-Err.ensures.0 e,
  large-here c.args.headers.now (marks_in c.args.marks.now) c.args.member c.index-headers-0.result c.index-headers-0.is c.requires.some c.requires.can_join c.requires.suited c.in-Some-base.base c.in-Some.slabs.now c.own_slabs-slabs.result.now
      c.in-Some.ensures c.in-Some-base.ensures c.own_slabs-slabs.ensures c.in-Err.ensures.1,
)

pub push_records-requires-clause-ready : goal.push_records-requires-clause-ready
push_records-requires-clause-ready c =
    records-ready c.args.headers.now (marks_in c.args.marks.now) c.args.member c.index-headers-0.result c.index-headers-0.is c.requires.some c.requires.can_join c.requires.suited c.in-Some-base.base c.in-Some.slabs.now c.own_slabs-slabs.result.now
    c.in-Some.ensures c.in-Some-base.ensures c.own_slabs-slabs.ensures c.is_record.ensures.sizes c.is_record.result c.is_record.ensures.over_records c.if-is_record.true (subst (λ n. n ≤ 2147483647) c.in-Ok.ensures.0 c.in-Ok.ensures.1)

pub push_whole-requires-clause-leaf : goal.push_whole-requires-clause-leaf
push_whole-requires-clause-leaf c =
    whole-ready c.args.headers.now (marks_in c.args.marks.now) c.args.member c.index-headers-0.result c.index-headers-0.is c.requires.some c.requires.can_join c.requires.suited c.in-Some-base.base c.in-Some.slabs.now c.own_slabs-slabs.result.now
    c.in-Some.ensures c.in-Some-base.ensures c.own_slabs-slabs.ensures c.is_record.ensures.sizes c.is_record.result c.is_record.ensures.over_records c.if-is_record.false

pub returns-in_ok-push_records-clause-found : goal.returns-in_ok-push_records-clause-found
returns-in_ok-push_records-clause-found c =
    records-found c.args.headers.now (marks_in c.args.marks.now) c.args.member c.index-headers-0.result c.index-headers-0.is c.requires.some c.requires.can_join c.requires.suited c.in-Some-base.base c.in-Some.slabs.now c.own_slabs-slabs.result.now
    c.in-Some.ensures c.in-Some-base.ensures c.own_slabs-slabs.ensures c.args.pieces.now c.push_records.new.pieces c.is_record.result c.is_record.ensures.over_records c.if-is_record.true (subst (λ n. n ≤ 2147483647) c.in-Ok.ensures.0 c.in-Ok.ensures.1) c.in_ok-push_records.ensures.pushed

pub returns-in_ok-push_whole-clause-found : goal.returns-in_ok-push_whole-clause-found
returns-in_ok-push_whole-clause-found c =
    whole-found c.args.headers.now (marks_in c.args.marks.now) c.args.member c.index-headers-0.result c.index-headers-0.is c.requires.some c.requires.can_join c.requires.suited c.in-Some-base.base c.in-Some.slabs.now c.own_slabs-slabs.result.now
    c.in-Some.ensures c.in-Some-base.ensures c.own_slabs-slabs.ensures c.args.pieces.now c.push_whole.new.pieces c.is_record.result c.is_record.ensures.over_records c.if-is_record.false (subst (λ n. n ≤ 2147483647) c.in-Ok.ensures.0 c.in-Ok.ensures.1) c.in_ok-push_whole.ensures.pushed
