use Rattle.std.proofs.Common.{length, true, false, sym, ◌∙◌}
use Rattle.std.proofs.lemmas.Bool.{false≢true}
use Rattle.dap_client.proofs.Filling.{full_at, less_than_full}
use Rattle.dap_client.proofs.Waiting.{own_failed}
use Rattle.dap_client.proofs.reader.stage_at.Goals as goal

pub returns-then-taken-eq-BUDGET-clause-stage : goal.returns-then-taken-eq-BUDGET-clause-stage
returns-then-taken-eq-BUDGET-clause-stage c bytes put long o = c.filled.ensures.stage bytes put (full_at (length bytes) c.args.taken long c.if-taken-eq-BUDGET.true) o

pub returns-then-taken-eq-BUDGET-clause-within : goal.returns-then-taken-eq-BUDGET-clause-within
returns-then-taken-eq-BUDGET-clause-within c le on = absurd (false≢true (sym c.filled.ensures.closed ∙ on))

pub returns-then-taken-eq-BUDGET-clause-cause : goal.returns-then-taken-eq-BUDGET-clause-cause
returns-then-taken-eq-BUDGET-clause-cause c = c.filled.ensures.cause

pub returns-clause-within : goal.returns-clause-within
returns-clause-within c le on = less_than_full c.args.taken le c.if-taken-eq-BUDGET.false

pub returns-clause-cause : goal.returns-clause-cause
returns-clause-cause c = own_failed c.args.stage
