use Rattle.std.proofs.Common.{get_or, refl}
use Rattle.xdr_decode.proofs.Lined.{text_cut, text_differs}
use Rattle.xdr_decode.proofs.data_line.literal.Goals as goal

pub returns-then-at-bytes-clause-stop : goal.returns-then-at-bytes-clause-stop
returns-then-at-bytes-clause-stop c = text_cut c.args.bytes.now c.args.text.now c.loop-at.at c.loop-at-test.true c.if-at-bytes.true c.loop-at.invariant

pub returns-then-bytes-at-clause-stop : goal.returns-then-bytes-at-clause-stop
returns-then-bytes-at-clause-stop c =
    text_differs c.args.bytes.now c.args.text.now c.loop-at.at (get_or c.args.text.now c.loop-at.at 0) _ c.loop-at-test.true c.if-at-bytes.false refl c.if-bytes-at.true refl c.loop-at.invariant
