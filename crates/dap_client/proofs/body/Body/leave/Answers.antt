use Rattle.dap_client.proofs.Wrapped.{leaves}
use Rattle.dap_client.specs.After.{BodyStandsAfter}
use Rattle.dap_client.proofs.body.Body.leave.Goals as goal

pub returns-clause-shows : goal.returns-clause-shows
unfolding BodyStandsAfter
returns-clause-shows c bytes put (p, long, small) = leaves _ c.args.self.part bytes put p
