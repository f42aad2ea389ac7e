use Rattle.std.proofs.Common.{}
use Rattle.grid_projection.specs.Resolved.{marks_in}
use Rattle.xdr_encode.proofs.Gathering.{wanted_is}
use Rattle.xdr_encode.proofs.wanted.wanted.Goals as goal

pub returns : goal.returns
returns c =
    wanted_is c.args.header.now.contents c.args.header.now.length (marks_in c.args.marks.now) c.args.member c.in-Some-layout.layout.now c.in-Some-base.base c.in-Some.slabs.now c.own_slabs-slabs.result.now
    c.in-Some.ensures c.in-Some-layout.ensures.leaf c.layout.ensures.below c.in-Some-layout.ensures.placed c.in-Some-layout.ensures.shaped c.in-Some-base.ensures c.own_slabs-slabs.ensures
