use Rattle.dap_client.proofs.Single.{single}
use Rattle.dap_client.proofs.fetching.fetch.Goals as goal

pub returns-clause-fetches : goal.returns-clause-fetches
returns-clause-fetches g c = single _ _ _ _ _ _ _ _ _ _ c.in-Ok.ensures c.fetch_all-last.ensures.fetches
