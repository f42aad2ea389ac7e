use Rattle.std.proofs.Common.{sym, ap, subst}
use Rattle.dap_client.proofs.Filling.{full_in_line, full_values, unfinished_not_full}
use Rattle.dap_client.proofs.Waiting.{where_never}
use Rattle.dap_client.specs.inner.Stages.{IsFull, IsStage, WhereFailed, is_open_stage}
use Rattle.reply_faults.specs.declared.bad.Bad.TheVariants.{TooLong}
use Rattle.dap_client.proofs.stage.Stage.filled.Goals as goal

pub returns-in-First-clause-stage : goal.returns-in-First-clause-stage
returns-in-First-clause-stage c bytes put full o =
    let (first, empty) = rw c.in-First.is at o in subst (IsStage c.fill_first.result bytes) (sym empty) (c.fill_first.ensures.stage bytes full _ first.is_word first.had)

pub returns-in-Error-clause-stage : goal.returns-in-Error-clause-stage
returns-in-Error-clause-stage c bytes put full o =
    let (error, object, empty) = rw c.in-Error.is at o in subst (IsStage c.fill_object.result bytes) (sym empty) (c.fill_object.ensures.stage bytes full error object)

pub returns-in-Text-clause-stage : goal.returns-in-Text-clause-stage
returns-in-Text-clause-stage c bytes put full o = let (none, had, unfinished, empty) = rw c.in-Text.is at o in absurd (unfinished_not_full bytes full unfinished)

pub returns-in-Line-clause-stage : goal.returns-in-Line-clause-stage
returns-in-Line-clause-stage c bytes put full o =
    let (none, line, empty) = rw c.in-Line.is at o in
    subst (λ s. IsStage s bytes put) (sym c.full-in-Line.ensures) (subst (λ p. IsFull (record { kind = TooLong; place = 1099511627776 }) bytes p) (sym empty) (full_in_line _ _ bytes full none line))

pub returns-in-Values-clause-stage : goal.returns-in-Values-clause-stage
returns-in-Values-clause-stage c bytes put full o =
    let (none, values) = rw c.in-Values.is at o in
    subst (λ s. IsStage s bytes put) (sym c.full-in-Values.ensures) (full_values _ bytes put full none values)

pub returns-in-Refused-clause-stage : goal.returns-in-Refused-clause-stage
returns-in-Refused-clause-stage c bytes put full o = rw c.in-Refused.is at o

pub returns-in-Full-clause-stage : goal.returns-in-Full-clause-stage
returns-in-Full-clause-stage c bytes put full o = rw c.in-Full.is at o

pub returns-in-Failed-clause-stage : goal.returns-in-Failed-clause-stage
returns-in-Failed-clause-stage c bytes put full o = rw c.in-Failed.is at o

pub returns-in-Failed-clause-cause : goal.returns-in-Failed-clause-cause
returns-in-Failed-clause-cause c = c.in-Failed.is

pub returns-clause-stage : goal.returns-clause-stage
returns-clause-stage c bytes put full o = rw c.in-Spent.is at o

pub returns-in-First-clause-cause : goal.returns-in-First-clause-cause
returns-in-First-clause-cause c = where_never _ c.fill_first.result c.fill_first.ensures.cause

pub returns-in-Error-clause-cause : goal.returns-in-Error-clause-cause
returns-in-Error-clause-cause c = where_never _ c.fill_object.result c.fill_object.ensures.cause

pub returns-in-Text-clause-closed : goal.returns-in-Text-clause-closed
returns-in-Text-clause-closed c = ap is_open_stage c.full.ensures

pub returns-in-Text-clause-cause : goal.returns-in-Text-clause-cause
returns-in-Text-clause-cause c = subst (WhereFailed _) (sym c.full.ensures) tt

pub returns-in-Line-clause-closed : goal.returns-in-Line-clause-closed
returns-in-Line-clause-closed c = ap is_open_stage c.full-in-Line.ensures

pub returns-in-Line-clause-cause : goal.returns-in-Line-clause-cause
returns-in-Line-clause-cause c = subst (WhereFailed _) (sym c.full-in-Line.ensures) tt

pub returns-in-Values-clause-closed : goal.returns-in-Values-clause-closed
returns-in-Values-clause-closed c = ap is_open_stage c.full-in-Values.ensures

pub returns-in-Values-clause-cause : goal.returns-in-Values-clause-cause
returns-in-Values-clause-cause c = subst (WhereFailed _) (sym c.full-in-Values.ensures) tt
