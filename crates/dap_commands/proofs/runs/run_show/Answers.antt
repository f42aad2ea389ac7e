use Rattle.dap_commands.proofs.Running.{run-shown, run-shown-alone}
use Rattle.dap_commands.proofs.runs.run_show.Goals as goal

pub returns-clause-says : goal.returns-clause-says
returns-clause-says g c = λ is. record { says = c.run.ensures.show is; comes = c.run.ensures.shows is }

pub returns-clause-shown : goal.returns-clause-shown
returns-clause-shown g c = λ r is left response takes puts had. run-shown _ _ r (record { says = c.run.ensures.show is; comes = c.run.ensures.shows is }) left response takes puts had

pub returns-clause-alone : goal.returns-clause-alone
returns-clause-alone g c = λ bytes is left complete. run-shown-alone _ _ bytes (record { says = c.run.ensures.show is; comes = c.run.ensures.shows is }) left complete
