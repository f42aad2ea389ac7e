use Rattle.std.proofs.Common.{◌≡◌, sym, ap, ◌∙◌}
use Rattle.dap_types.specs.View.{dataset_view}
use Rattle.dap_model.specs.Tokens.{sign}
use Rattle.dds_text.specs.inner.Held.{state_view}
use Rattle.dds_text.specs.inner.States.{dataset_called}
use Rattle.dds_text.specs.inner.Standing.{Holds}
use Rattle.dds_text.proofs.Parsed.{not_last, moved_on}
use Rattle.dds_text.proofs.parser.Parser.take_sign.Goals as goal

pub returns-in-DatasetCalled : goal.returns-in-DatasetCalled
unfolding Holds
returns-in-DatasetCalled c = λ s holds.
    let same : s ≡ dataset_called (dataset_view c.in-DatasetCalled.dataset) = holds.0 ∙ ap (state_view c.args.self.now.levels) (sym c.replace-state.ensures.value ∙ c.in-DatasetCalled.is) in
    rw same (c.end_dataset.ensures (record c.args.self.now { state = c.replace-state.new.dest }))

pub returns-in-Some : goal.returns-in-Some
unfolding Holds
returns-in-Some c = λ s holds.
    moved_on c.args.self.now.levels c.step_by_sign.new.levels c.args.self.now.state c.replace-state.result c.in-Some.next c.rest_at.new.self s (sign c.args.byte) c.replace-state.ensures.value holds c.rest_at.ensures
    (λ sound. rw c.in-Some.is at (c.in_ok-next.ensures sound (not_last c.replace-state.result c.in_default.not-DatasetCalled)))
