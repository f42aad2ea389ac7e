use Rattle.std.proofs.Common.{ℕ, ◌<◌, ap, ◌∙◌, subst, arith}
use Rattle.constraint_parse.specs.Language.{text, bare, is_word_byte}
use Rattle.viable.specs.Runs.{IsRunTo}
use Rattle.constraint_parse.specs.Values.{word_value}
use Rattle.constraint_parse.specs.declared.constraint.Constant.TheVariants.{Text}
use Rattle.constraint_parse.proofs.Words.{word_passes, value_faults}
use Rattle.viable.proofs.Runs.{run_slice}
use Rattle.constraint_parse.proofs.clauses.value.Goals as goal

pub returns-then-is_at-clause-spelled : goal.returns-then-is_at-clause-spelled
returns-then-is_at-clause-spelled c = λ s k brace st.
    let (p, vp, behind) = c.in_ok-bytes.ensures.spelled s k st in
    (text p, ap Text vp, behind)

pub returns-then-end-at-clause-spelled : goal.returns-then-end-at-clause-spelled
returns-then-end-at-clause-spelled c = λ s k brace st.
    let run = c.run_end-end.ensures.run in
    let r : IsRunTo is_word_byte c.args.text.now c.args.at c.args.at run.0 = subst (λ (x : ℕ). IsRunTo is_word_byte c.args.text.now c.args.at x run.0) c.if-end-at.true run.1 in
    rw c.at.ensures (value_faults st k brace c.requires run.0 r c.if-is_at.ensures)

pub returns-clause-spelled : goal.returns-clause-spelled
returns-clause-spelled c = λ s k brace st.
    let run = c.run_end-end.ensures.run in
    let further : c.args.at < c.run_end-end.result = omega arith in (
      bare run.0,
      c.word_constant.ensures ∙ ap word_value (run_slice _ c.args.text.now _ _ _ run.1.is_run_of),
      λ next e. c.skip_blanks.ensures.stands next (word_passes st k c.run_end-end.result run.0 run.1 further next e),
    )
