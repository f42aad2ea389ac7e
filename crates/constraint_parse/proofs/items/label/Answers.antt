use Rattle.std.proofs.Common.{ℕ, ◌<◌, ap, ◌∙◌, subst, arith}
use Rattle.dap_types.specs.Names.{constraint_id}
use Rattle.constraint_parse.specs.Language.{is_name_byte}
use Rattle.viable.specs.Runs.{IsRunTo}
use Rattle.constraint_parse.proofs.Moves.{name_passes, name_faults}
use Rattle.viable.proofs.Runs.{run_slice}
use Rattle.constraint_parse.proofs.items.label.Goals as goal

pub returns-then-end-at-clause-spelled : goal.returns-then-end-at-clause-spelled
returns-then-end-at-clause-spelled c = λ s k st.
    let run = c.run_end-end.ensures.run in
    let r : IsRunTo is_name_byte c.args.text.now c.args.at c.args.at run.0 = subst (λ (x : ℕ). IsRunTo is_name_byte c.args.text.now c.args.at x run.0) c.if-end-at.true run.1 in
    rw c.at.ensures (name_faults st k c.requires run.0 r)

pub returns-clause-spelled : goal.returns-clause-spelled
returns-clause-spelled c = λ s k st.
    let run = c.run_end-end.ensures.run in
    let further : c.args.at < c.run_end-end.result = omega arith in (
      run.0,
      c.in_ok-id.ensures ∙ ap constraint_id (run_slice _ c.args.text.now _ _ _ run.1.is_run_of),
      λ next e. c.skip_blanks.ensures.stands next (name_passes st k c.run_end-end.result run.0 run.1 further next e),
    )
