-- How many bytes of a source are taken.
use Rattle.std.proofs.Common.{ℕ, ◌≤◌, List, [], length, Option, arith}
use Rattle.std.proofs.KnownBytes.{Consumes-nil}
use Rattle.dap_client.specs.Shows.{Takes}
use Rattle.dap_client.specs.inner.Showing.{Reads}
use Rattle.dap_client.specs.declared.reader.BodyReader.{BodyReader}
use Rattle.dap_client.proofs.Filling.{budget_is}

pub no_more : (left now written text : Option (List ℕ)) (reader : BodyReader) → Reads left now written text reader → Takes left now (λ taken. length taken ≤ 1099511627776)
no_more left now written text reader (bytes, put, took, gained, s) = (bytes, took, omega (arith, s.most, budget_is))

pub none_more : (left : Option (List ℕ)) → Takes left left (λ taken. length taken ≤ 1099511627776)
none_more left = ([], Consumes-nil left, omega arith)
