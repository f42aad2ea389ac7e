use Rattle.constraint_parse.proofs.Calls.{argument_passes, argument_faults, call_passes}
use Rattle.constraint_parse.proofs.items.call_argument.Goals as goal

pub returns-then-not-is_at-clause-spelled : goal.returns-then-not-is_at-clause-spelled
returns-then-not-is_at-clause-spelled c = λ s k st.
    let run = c.run_end-end.ensures.run in
    let (next, e) = call_passes s k run.0 in
    rw c.at.ensures (argument_faults st c.run_end-end.result run.0 c.requires.0 c.requires.1 run.1 c.if-not-is_at.ensures next e)

pub returns-clause-spelled : goal.returns-clause-spelled
returns-clause-spelled c = λ s k st.
    let run = c.run_end-end.ensures.run in
    (run.0, λ next e. c.skip_blanks.ensures.stands next (argument_passes st c.run_end-end.result run.0 c.requires.0 c.requires.1 run.1 c.if-not-is_at.ensures.0 c.if-not-is_at.ensures.1 next e))
