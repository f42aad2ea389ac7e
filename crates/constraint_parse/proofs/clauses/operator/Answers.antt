use Rattle.std.proofs.Common.{refl, ◌+◌}
use Rattle.constraint_parse.specs.Language.{equal, not_equal, less, less_equal, greater, greater_equal, matches}
use Rattle.constraint_parse.proofs.Operators.{operator_passes, after_one, after_two, lacks_ends, bang_faults, operator_faults}
use Rattle.constraint_parse.proofs.clauses.operator.Goals as goal

pub returns-then-is_at-2-clause-spelled : goal.returns-then-is_at-2-clause-spelled
returns-then-is_at-2-clause-spelled c = λ items clauses front n st no_dot no_call.
    (matches, refl, c.skip_blanks.ensures.stands _ (operator_passes st matches _ (c.args.at + 2) (after_two st 61 126 c.if-is_at.ensures.0 c.if-is_at.ensures.1 c.if-is_at-2.ensures.0 c.if-is_at-2.ensures.1) refl tt))

pub returns-then-is_at-clause-spelled : goal.returns-then-is_at-clause-spelled
returns-then-is_at-clause-spelled c = λ items clauses front n st no_dot no_call.
    (equal, refl, c.skip_blanks-then-is_at.ensures.stands _ (operator_passes st equal _ (c.args.at + 1) (after_one st 61 c.if-is_at.ensures.0 c.if-is_at.ensures.1) refl (lacks_ends c.args.text.now (c.args.at + 1) 126 c.if-is_at-2.ensures)))

pub returns-then-is_at-4-clause-spelled : goal.returns-then-is_at-4-clause-spelled
returns-then-is_at-4-clause-spelled c = λ items clauses front n st no_dot no_call.
    (not_equal, refl, c.skip_blanks-then-is_at-4.ensures.stands _ (operator_passes st not_equal _ (c.args.at + 2) (after_two st 33 61 c.if-is_at-3.ensures.0 c.if-is_at-3.ensures.1 c.if-is_at-4.ensures.0 c.if-is_at-4.ensures.1) refl tt))

pub returns-then-is_at-3-clause-spelled : goal.returns-then-is_at-3-clause-spelled
returns-then-is_at-3-clause-spelled c = λ items clauses front n st no_dot no_call.
    rw c.at.ensures (bang_faults st c.if-is_at-3.ensures.0 c.if-is_at-3.ensures.1 c.if-is_at-4.ensures)

pub returns-then-is_at-6-clause-spelled : goal.returns-then-is_at-6-clause-spelled
returns-then-is_at-6-clause-spelled c = λ items clauses front n st no_dot no_call.
    (less_equal, refl, c.skip_blanks-then-is_at-6.ensures.stands _ (operator_passes st less_equal _ (c.args.at + 2) (after_two st 60 61 c.if-is_at-5.ensures.0 c.if-is_at-5.ensures.1 c.if-is_at-6.ensures.0 c.if-is_at-6.ensures.1) refl tt))

pub returns-then-is_at-5-clause-spelled : goal.returns-then-is_at-5-clause-spelled
returns-then-is_at-5-clause-spelled c = λ items clauses front n st no_dot no_call.
    (less, refl, c.skip_blanks-then-is_at-5.ensures.stands _ (operator_passes st less _ (c.args.at + 1) (after_one st 60 c.if-is_at-5.ensures.0 c.if-is_at-5.ensures.1) refl (lacks_ends c.args.text.now (c.args.at + 1) 61 c.if-is_at-6.ensures)))

pub returns-then-is_at-8-clause-spelled : goal.returns-then-is_at-8-clause-spelled
returns-then-is_at-8-clause-spelled c = λ items clauses front n st no_dot no_call.
    (greater_equal, refl, c.skip_blanks-then-is_at-8.ensures.stands _ (operator_passes st greater_equal _ (c.args.at + 2) (after_two st 62 61 c.if-is_at-7.ensures.0 c.if-is_at-7.ensures.1 c.if-is_at-8.ensures.0 c.if-is_at-8.ensures.1) refl tt))

pub returns-then-is_at-7-clause-spelled : goal.returns-then-is_at-7-clause-spelled
returns-then-is_at-7-clause-spelled c = λ items clauses front n st no_dot no_call.
    (greater, refl, c.skip_blanks-then-is_at-7.ensures.stands _ (operator_passes st greater _ (c.args.at + 1) (after_one st 62 c.if-is_at-7.ensures.0 c.if-is_at-7.ensures.1) refl (lacks_ends c.args.text.now (c.args.at + 1) 61 c.if-is_at-8.ensures)))

pub returns-clause-spelled : goal.returns-clause-spelled
returns-clause-spelled c = λ items clauses front n st no_dot no_call.
    rw c.at-2.ensures (operator_faults st c.requires no_dot no_call c.if-is_at.ensures c.if-is_at-3.ensures c.if-is_at-5.ensures c.if-is_at-7.ensures)
