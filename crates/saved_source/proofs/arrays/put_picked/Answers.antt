use Rattle.dap_model.specs.Cutting.{cut}
use Rattle.dap_model.specs.Fits.{values_in}
use Rattle.saved_source.proofs.Putting.{none_picked, nothing_put}
use Rattle.saved_source.proofs.arrays.put_picked.Goals as goal

pub returns-then-count-eq0-clause-puts : goal.returns-then-count-eq0-clause-puts
returns-then-count-eq0-clause-puts g c = λ t rest st long. nothing_put _ _ _ (none_picked c.args.base (values_in (cut c.args.slabs.now t)) c.args.count c.if-count-eq0.true long)
