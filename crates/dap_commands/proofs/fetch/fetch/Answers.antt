use Rattle.dap_commands.proofs.Fetching.{memory-says}
use Rattle.dap_commands.proofs.fetch.fetch.Goals as goal

pub returns-in-Err-Memory-clause-says : goal.returns-in-Err-Memory-clause-says
returns-in-Err-Memory-clause-says g c = λ u is. memory-says _ _ _ _ _ _ _
