use Rattle.join_source.proofs.Own.{own-asked, own-few}
use Rattle.join_source.proofs.plans.record_plan.Goals as goal

pub plan_of-requires-clause-leaf : goal.plan_of-requires-clause-leaf
plan_of-requires-clause-leaf c = own-asked c.args.header.now c.args.leaf c.args.slabs.now c.requires c.is_record.ensures.sizes

pub plan_of-requires-clause-few : goal.plan_of-requires-clause-few
plan_of-requires-clause-few c = own-few c.args.header.now c.args.leaf c.args.slabs.now c.requires
