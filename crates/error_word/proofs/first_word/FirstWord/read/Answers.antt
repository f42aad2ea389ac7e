use Rattle.std.proofs.Common.{◌++◌, take}
use Rattle.error_word.proofs.FirstWords.{error_in, no_error_in}
use Rattle.error_word.proofs.first_word.FirstWord.read.Goals as goal

pub returns-in-Error : goal.returns-in-Error
returns-in-Error c bytes o =
    error_in bytes c.args.piece.now c.loop-byte.byte-index c.loop-byte-test.true (rw c.in-Error.is at (c.next.ensures (bytes ++ take c.loop-byte.byte-index c.args.piece.now) (c.loop-byte.invariant.stands bytes o)))

pub returns-in-Other : goal.returns-in-Other
returns-in-Other c bytes o =
    no_error_in bytes c.args.piece.now c.loop-byte.byte-index c.loop-byte-test.true (rw c.in-Other.is at (c.next.ensures (bytes ++ take c.loop-byte.byte-index c.args.piece.now) (c.loop-byte.invariant.stands bytes o)))
