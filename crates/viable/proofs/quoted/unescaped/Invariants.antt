use Rattle.std.proofs.Common.{◌≡◌, ◌++◌, drop}
use Rattle.viable.specs.Quoted.{unescaped_from, unescape}
use Rattle.viable.proofs.quoted.unescaped.Given as goal

abbrev pub invariant-loop-byte : goal.invariant-loop-byte
invariant-loop-byte l = l.value.items ++ unescaped_from l.pending (drop l.byte-index l.bytes) ≡ unescape l.bytes
