use Rattle.join_source.proofs.Planning.{plan-is, plan-ready}
use Rattle.join_source.proofs.plans.plan_of.Goals as goal

pub new-requires-clause-one_each : goal.new-requires-clause-one_each
new-requires-clause-one_each c = (plan-ready c.args.header.now c.args.leaf c.args.slabs.now c.in-Some.layout.now c.in-Some-base.base c.requires.leaf c.in-Some.ensures.leaf c.layout.ensures.below c.in-Some.ensures.placed c.in-Some.ensures.shaped c.in-Some-base.ensures).one_each

pub new-requires-clause-strided : goal.new-requires-clause-strided
new-requires-clause-strided c = (plan-ready c.args.header.now c.args.leaf c.args.slabs.now c.in-Some.layout.now c.in-Some-base.base c.requires.leaf c.in-Some.ensures.leaf c.layout.ensures.below c.in-Some.ensures.placed c.in-Some.ensures.shaped c.in-Some-base.ensures).strided

pub new-requires-clause-below : goal.new-requires-clause-below
new-requires-clause-below c = (plan-ready c.args.header.now c.args.leaf c.args.slabs.now c.in-Some.layout.now c.in-Some-base.base c.requires.leaf c.in-Some.ensures.leaf c.layout.ensures.below c.in-Some.ensures.placed c.in-Some.ensures.shaped c.in-Some-base.ensures).below

pub new-requires-clause-sized : goal.new-requires-clause-sized
new-requires-clause-sized c = (plan-ready c.args.header.now c.args.leaf c.args.slabs.now c.in-Some.layout.now c.in-Some-base.base c.requires.leaf c.in-Some.ensures.leaf c.layout.ensures.below c.in-Some.ensures.placed c.in-Some.ensures.shaped c.in-Some-base.ensures).sized

pub new-requires-clause-small : goal.new-requires-clause-small
new-requires-clause-small c = (plan-ready c.args.header.now c.args.leaf c.args.slabs.now c.in-Some.layout.now c.in-Some-base.base c.requires.leaf c.in-Some.ensures.leaf c.layout.ensures.below c.in-Some.ensures.placed c.in-Some.ensures.shaped c.in-Some-base.ensures).small

pub new-requires-clause-typed : goal.new-requires-clause-typed
new-requires-clause-typed c = (plan-ready c.args.header.now c.args.leaf c.args.slabs.now c.in-Some.layout.now c.in-Some-base.base c.requires.leaf c.in-Some.ensures.leaf c.layout.ensures.below c.in-Some.ensures.placed c.in-Some.ensures.shaped c.in-Some-base.ensures).typed

pub returns : goal.returns
returns c = record {
  plan = plan-is c.args.header.now c.args.leaf c.args.slabs.now c.in-Some.layout.now c.in-Some-base.base c.requires.leaf c.in-Some.ensures.leaf c.layout.ensures.below c.in-Some.ensures.placed c.in-Some.ensures.shaped c.in-Some-base.ensures
      c.new.result c.new.ensures.base c.new.ensures.size c.new.ensures.places c.new.ensures.spent;
}
