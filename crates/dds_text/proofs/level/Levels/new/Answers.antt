use Rattle.std.proofs.Common.{All, ap, sym, subst, ◌∙◌, arith}
use Rattle.dds_text.proofs.OpenLevels.{nested-none}
use Rattle.dds_text.specs.inner.Held.{nested, HasNames, AllNamed}
use Rattle.dds_text.specs.inner.States.{top}
use Rattle.dds_text.proofs.level.Levels.new.Goals as goal

pub returns-clause-empty : goal.returns-clause-empty
returns-clause-empty c = ap (λ ls. nested ls c.new.result) c.new-2.ensures.items ∙ nested-none c.new.result ∙ ap top c.new.ensures.empty

pub returns-clause-names : goal.returns-clause-names
unfolding AllNamed
returns-clause-names c = (c.new.ensures.names, subst (All HasNames) (sym c.new-2.ensures.items) (λ k d h. absurd (omega (arith, h))))
