use Rattle.std.proofs.Common.{◌≡◌, ◌++◌, take}
use Rattle.std.specs.List.{flat_map}
use Rattle.viable.specs.Quoted.{escaped_piece, piece_bytes}
use Rattle.viable.proofs.quoted.push_escaped.Given as goal

abbrev pub invariant-loop-byte : goal.invariant-loop-byte
invariant-loop-byte l = l.out.items ≡ l.initial.out.items ++ flat_map (λ b. piece_bytes (escaped_piece b)) (take l.byte-index l.text)
