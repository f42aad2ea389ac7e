use Rattle.std.proofs.lemmas.Bool.{eqb-true}
use Rattle.hyperslab_plan.proofs.DenseLemmas.{dense, dense-raw_len}
use Rattle.hyperslab_plan.proofs.plan.Plan.is_dense.Goals as goal

pub returns-clause-places : goal.returns-clause-places
returns-clause-places c t b j is below = dense c.args.self.now b j (eqb-true c.args.self.now.shape.jump c.args.self.now.size t) is below

pub returns-clause-raw_len : goal.returns-clause-raw_len
returns-clause-raw_len c t b is = dense-raw_len c.args.self.now b (eqb-true c.args.self.now.shape.jump c.args.self.now.size t) is
