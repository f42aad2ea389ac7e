use Rattle.std.proofs.Common.{◌≡◌, length, map, take}
use Rattle.join_source.specs.Members.{lengths_of}
use Rattle.join_tests.proofs.testing.headers_of.Given as goal

abbrev pub invariant-loop-file : goal.invariant-loop-file
invariant-loop-file g l = lengths_of l.headers ≡ map (λ f. length f.now) (take l.file-index l.files)
