use Rattle.dap_types.specs.View.{member_view}
use Rattle.dds_text.proofs.OpenLevels.{nested-add}
use Rattle.dds_text.specs.inner.Held.{AllNamed}
use Rattle.dds_text.proofs.level.Levels.add.Goals as goal

pub returns-clause-added : goal.returns-clause-added
returns-clause-added c = nested-add c.args.self.now.outer.items c.args.self.now.inner c.add.new.self (member_view c.args.member) c.in_ok-add.ensures.added

pub returns-clause-names : goal.returns-clause-names
unfolding AllNamed
returns-clause-names c = λ have. (c.in_ok-add.ensures.names have.0, have.1)
