use Rattle.saved_source.specs.Responses.{dataset_in}
use Rattle.dap_server.proofs.Faultless.{faultless}
use Rattle.dap_server.proofs.open_saved.saved_in.Goals as goal

pub invariant_of-result : goal.invariant_of-result
invariant_of-result c = record { faultless = faultless (dataset_in c.in-Ok.saved) c.in-Ok.ensures.well_formed }
