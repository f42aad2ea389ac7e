use Rattle.dap_commands.proofs.Fetching.{memory-says}
use Rattle.dap_commands.proofs.fetch.fetch_url.Goals as goal

pub returns-in_default-clause-says : goal.returns-in_default-clause-says
returns-in_default-clause-says g c = memory-says _ _ _ _ _ _ _
