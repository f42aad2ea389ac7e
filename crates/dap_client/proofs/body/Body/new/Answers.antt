use Rattle.std.proofs.Common.{refl}
use Rattle.dap_client.proofs.Filling.{nothing_within}
use Rattle.dap_client.specs.After.{BodyStandsAfter}
use Rattle.dap_client.proofs.body.Body.new.Goals as goal

pub returns-clause-stands : goal.returns-clause-stands
unfolding BodyStandsAfter
returns-clause-stands c = (c.first_part.ensures, refl, nothing_within)
