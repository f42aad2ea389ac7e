use Rattle.std.proofs.Common.{◌≤◌, [], append-nil, arith, length, subst}
use Rattle.join_source.proofs.Own.{records-end}
use Rattle.join_source.specs.Wanted.{AreRecords}
use Rattle.join_source.proofs.pieces.push_each.Goals as goal

pub returns : goal.returns
returns c =
    let kept = c.loop-k.invariant in
    let end : length c.args.headers.now ≤ c.loop-k.k = omega (arith, c.loop-k-test.false, c.loop-k.auto.k-end) in
    record {
      pushed = (
        kept.2,
        kept.0,
        kept.1,
        kept.3,
        kept.4,
        subst (λ own. AreRecords 0 c.args.headers.now c.args.leaf kept.0 kept.1 own) (append-nil kept.2) (kept.5 [] (records-end c.args.headers.now c.loop-k.k c.args.leaf c.loop-k.left kept.1 end)),
      );
    }
