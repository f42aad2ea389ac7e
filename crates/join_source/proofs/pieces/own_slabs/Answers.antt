use Rattle.join_source.proofs.First.{no-layout, own-slabs-of}
use Rattle.join_source.proofs.pieces.own_slabs.Goals as goal

pub returns-in-Some : goal.returns-in-Some
returns-in-Some c = λ v is. own-slabs-of c.args.header.now.contents c.args.leaf v c.in-Some.layout.now c.args.slabs.now c.cut_slabs.result.now c.in-Some.ensures.leaf is c.cut_slabs.ensures

pub returns-in-None : goal.returns-in-None
returns-in-None c = λ v is. absurd (no-layout c.args.header.now.contents c.args.leaf v c.in-None.ensures.leaf is)
