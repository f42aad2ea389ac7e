use Rattle.std.proofs.Common.{All, sym, subst, arith}
use Rattle.dds_text.proofs.OpenLevels.{left_view, all_popped, none_around, last_view}
use Rattle.dds_text.specs.inner.Held.{HasNames, AllNamed}
use Rattle.dds_text.proofs.level.Levels.leave.Goals as goal

pub returns-in-Some-clause-left : goal.returns-in-Some-clause-left
returns-in-Some-clause-left c = left_view c.args.self.now.outer.items c.pop.new.self.items c.in-Some.around c.args.self.now.inner c.replace-closed.new.dest c.replace-closed.result c.in-Some.ensures.items c.replace-closed.ensures.value c.replace-closed.ensures.after

pub returns-in-Some-clause-names : goal.returns-in-Some-clause-names
unfolding AllNamed
returns-in-Some-clause-names c = λ have.
    let popped = all_popped c.args.self.now.outer.items c.pop.new.self.items c.in-Some.around c.in-Some.ensures.items have.1 in
    (subst HasNames (sym c.replace-closed.ensures.after) popped.1, popped.0)

pub returns-in-None-clause-left : goal.returns-in-None-clause-left
returns-in-None-clause-left c =
    let none = none_around c.args.self.now.outer.items c.pop.new.self.items _ c.in-None.ensures.cases.0 c.in-None.ensures.rest c.in-None.ensures.items in
    last_view c.args.self.now.outer.items c.args.self.now.inner c.replace-closed-in-None.result none.0 c.replace-closed-in-None.ensures.value

pub returns-in-None-clause-names : goal.returns-in-None-clause-names
unfolding AllNamed
returns-in-None-clause-names c = λ have.
    let none = none_around c.args.self.now.outer.items c.pop.new.self.items _ c.in-None.ensures.cases.0 c.in-None.ensures.rest c.in-None.ensures.items in
    (subst HasNames (sym c.replace-closed-in-None.ensures.after) c.new.ensures.names, subst (All HasNames) (sym none.1) (λ k d h. absurd (omega (arith, h))))
