use Rattle.join_source.proofs.Differing.{first-differs}
use Rattle.join_source.proofs.joining.first_to_differ.Goals as goal

pub returns-then-not-same_shape : goal.returns-then-not-same_shape
returns-then-not-same_shape c =
    first-differs c.args.headers.now c.loop-k.k c.index-headers-0.result c.index-headers-k.result c.same_shape.result c.requires.some c.loop-k-test.true c.index-headers-0.is c.index-headers-k.is
    c.loop-k.invariant c.same_shape.ensures.differ c.if-not-same_shape.true
