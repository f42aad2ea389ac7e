-- A path has room for each variable of a well formed dataset.
use Rattle.std.proofs.Common.{◌≤◌, [], arith}
use Rattle.std.proofs.lemmas.List.Elements.{All-weaker}
use Rattle.dap_types.proofs.Faults.{length-places}
use Rattle.dap_types.specs.Model.{Dataset}
use Rattle.dap_types.specs.WellFormed.{IsWellFormed, places_of}
use Rattle.xdr_decode.specs.inner.Places.{HaveRoom, IsShallow}

pub roomy : (d : Dataset) → IsWellFormed d → HaveRoom 0 d.members
roomy d well = (
  All-weaker (λ p. p.depth ≤ 16) (IsShallow 0) (λ p le. omega (arith, le)) (places_of d) well.shallow,
  omega (arith, well.few, length-places d.members 1 []),
)
