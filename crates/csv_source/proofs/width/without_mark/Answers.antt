use Rattle.csv_source.proofs.Marks.{marked, unmarked}
use Rattle.csv_source.proofs.width.without_mark.Goals as goal
use Rattle.csv_source.proofs.width.without_mark.Goals.{else-bytes-ge3-via-then-bytes-ge3+then-bytes+then-bytes-2+else-bytes-3, else-bytes-ge3-via-then-bytes-ge3+then-bytes+else-bytes-2, else-bytes-ge3-via-then-bytes-ge3+else-bytes, else-bytes-ge3-via-else-bytes-ge3}
use Rattle.std.proofs.Common.{arith}

pub returns-then-bytes-3 : goal.returns-then-bytes-3
returns-then-bytes-3 c = marked c.args.bytes.now c.if-bytes-ge3.true c.if-bytes.true c.if-bytes-2.true c.if-bytes-3.true

pub returns : goal.returns
returns c =
    elim c.else-bytes-ge3.branch [
      | else-bytes-ge3-via-then-bytes-ge3+then-bytes+then-bytes-2+else-bytes-3 w ↦ unmarked c.args.bytes.now (λ long p q r. w.if-bytes-3.false r)
      | else-bytes-ge3-via-then-bytes-ge3+then-bytes+else-bytes-2 w ↦ unmarked c.args.bytes.now (λ long p q r. w.if-bytes-2.false q)
      | else-bytes-ge3-via-then-bytes-ge3+else-bytes w ↦ unmarked c.args.bytes.now (λ long p q r. w.if-bytes.false p)
      | else-bytes-ge3-via-else-bytes-ge3 w ↦ unmarked c.args.bytes.now (λ long p q r. omega (arith, long, w.if-bytes-ge3.false))
    ]
