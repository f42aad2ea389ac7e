use Rattle.std.proofs.Common.{subst, sym}
use Rattle.dap_types.specs.WellFormed.{IsWellFormed}
use Rattle.saved_source.specs.Responses.{dataset_in}
use Rattle.dap_server.proofs.Faultless.{well_formed}
use Rattle.dap_server.proofs.saved_file.SavedFile.dataset.Goals as goal

pub returns-clause-well_formed : goal.returns-clause-well_formed
returns-clause-well_formed c = subst IsWellFormed (sym c.in_ok-dataset.ensures) (well_formed (dataset_in c.args.self.now.saved) c.args.self.now.faultless)
