use Rattle.dap_commands.proofs.Saved.{memory-saves}
use Rattle.dap_commands.proofs.save.save_fetched.Goals as goal

pub returns-in-Err-Memory-clause-says : goal.returns-in-Err-Memory-clause-says
returns-in-Err-Memory-clause-says g c = λ u is. memory-saves _ _ _ _ _ _
