use Rattle.std.proofs.Common.{ℕ, List, ◌++◌, ◌≤◌, length, take}
use Rattle.error_word.specs.inner.FirstWords.{IsOpenWord}
use Rattle.error_word.proofs.first_word.FirstWord.read.Given as goal

abbrev pub invariant-loop-byte : goal.invariant-loop-byte
invariant-loop-byte l = record {
  within : l.byte-index ≤ length l.fn.piece;
  stands : (bytes : List ℕ) → IsOpenWord l.fn.self bytes → IsOpenWord l.word (bytes ++ take l.byte-index l.fn.piece);
}
