use Rattle.std.proofs.Common.{◌≡◌, ◌++◌, length}
use Rattle.dap_client.specs.Fetched.{parts_of, requests_text}
use Rattle.dap_client.proofs.fetching.requests_for.Given as goal

abbrev pub invariant-loop-left : goal.invariant-loop-left
invariant-loop-left l = l.out.items ++ requests_text (parts_of l.url) l.kind l.left ≡ requests_text (parts_of l.url) l.kind l.ces

abbrev pub decreases-loop-left : goal.decreases-loop-left
decreases-loop-left l = length l.left
