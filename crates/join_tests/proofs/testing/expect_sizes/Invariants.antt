use Rattle.std.proofs.Common.{◌≡◌, length, map, take}
use Rattle.dap_outside.specs.MemShelf.{size_at}
use Rattle.join_tests.proofs.testing.expect_sizes.Given as goal

abbrev pub invariant-loop-k : goal.invariant-loop-k
invariant-loop-k g l = map (size_at l.shelf.files) (take l.k l.found) ≡ map (λ f. length f.now) (take l.k l.files)
