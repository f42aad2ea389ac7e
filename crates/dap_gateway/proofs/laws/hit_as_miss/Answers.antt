use Rattle.dap_gateway.proofs.Replied.{hit-is-miss, hit-is-replied, hit-is-told}
use Rattle.dap_gateway.proofs.laws.hit_as_miss.Goals as goal

pub returns : goal.returns
returns c = record { replied = hit-is-replied; told = hit-is-told; alike = hit-is-miss }
