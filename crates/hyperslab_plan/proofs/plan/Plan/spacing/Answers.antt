use Rattle.hyperslab_plan.proofs.MadeLemmas.{place-made}
use Rattle.hyperslab_plan.proofs.PositionLemmas.{place-row}
use Rattle.hyperslab_plan.proofs.plan.Plan.spacing.Goals as goal

pub returns-clause-places : goal.returns-clause-places
returns-clause-places c j = place-made c.args.self.now j

pub returns-clause-rows : goal.returns-clause-rows
returns-clause-rows c r i lt = place-row c.args.self.now r i lt
