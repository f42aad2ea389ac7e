use Rattle.grid_projection.specs.Resolved.{marks_in}
use Rattle.xdr_encode.proofs.Gathering.{wanted_ready, large_is, marked_is, too_large_as}
use Rattle.xdr_encode.proofs.wanted.leaf_at.Goals as goal

pub returns-in-Err-clause-refused : goal.returns-in-Err-clause-refused
returns-in-Err-clause-refused c = λ leaf e.
    let large = c.in-Err.ensures in (
      too_large_as c.in-Err.refusal c.args.number leaf large.0 e,
      large_is c.args.header.now.contents c.args.header.now.length (marks_in c.args.marks.now) c.args.member c.in-Some.wanted.layout.now c.in-Some.wanted.base c.in-Some.wanted.slabs.now c.in-Some.ensures c.requires large.1,
    )

pub leaf_of-requires-clause-one_each : goal.leaf_of-requires-clause-one_each
leaf_of-requires-clause-one_each c = (wanted_ready _ _ _ _ _ _ _ c.in-Some.ensures c.requires).one_each

pub leaf_of-requires-clause-strided : goal.leaf_of-requires-clause-strided
leaf_of-requires-clause-strided c = (wanted_ready _ _ _ _ _ _ _ c.in-Some.ensures c.requires).strided

pub leaf_of-requires-clause-below : goal.leaf_of-requires-clause-below
leaf_of-requires-clause-below c = (wanted_ready _ _ _ _ _ _ _ c.in-Some.ensures c.requires).below

pub leaf_of-requires-clause-sized : goal.leaf_of-requires-clause-sized
leaf_of-requires-clause-sized c = (wanted_ready _ _ _ _ _ _ _ c.in-Some.ensures c.requires).sized

pub leaf_of-requires-clause-small : goal.leaf_of-requires-clause-small
leaf_of-requires-clause-small c = (wanted_ready _ _ _ _ _ _ _ c.in-Some.ensures c.requires).small

pub leaf_of-requires-clause-typed : goal.leaf_of-requires-clause-typed
leaf_of-requires-clause-typed c = (wanted_ready _ _ _ _ _ _ _ c.in-Some.ensures c.requires).typed

pub returns-clause-found : goal.returns-clause-found
returns-clause-found c =
    marked_is c.args.header.now.contents c.args.header.now.length (marks_in c.args.marks.now) c.args.member c.in-Some.wanted.layout.now c.in-Some.wanted.base c.in-Some.wanted.slabs.now c.in_ok-leaf.leaf
    c.in-Some.ensures c.requires c.in-Ok.ensures c.in_ok-leaf.ensures.base c.in_ok-leaf.ensures.size c.in_ok-leaf.ensures.places c.in_ok-leaf.ensures.kind c.in_ok-leaf.ensures.cost
