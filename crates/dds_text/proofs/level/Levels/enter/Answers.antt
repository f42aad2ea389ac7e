use Rattle.std.proofs.Common.{sym, subst}
use Rattle.dds_text.proofs.OpenLevels.{entered_view, all_pushed}
use Rattle.dds_text.specs.inner.Held.{HasNames, AllNamed}
use Rattle.dds_text.proofs.level.Levels.enter.Goals as goal

pub returns-clause-entered : goal.returns-clause-entered
returns-clause-entered c = entered_view c.args.self.now.outer.items c.push.new.self.items c.replace-around.result c.args.self.now.inner c.replace-around.new.dest c.new.result c.in_ok-push.ensures.items c.replace-around.ensures.value c.replace-around.ensures.after c.new.ensures.empty

pub returns-clause-names : goal.returns-clause-names
unfolding AllNamed
returns-clause-names c = λ have.
    (subst HasNames (sym c.replace-around.ensures.after) c.new.ensures.names, all_pushed c.args.self.now.outer.items c.push.new.self.items c.replace-around.result c.args.self.now.inner c.in_ok-push.ensures.items c.replace-around.ensures.value have.0 have.1)
