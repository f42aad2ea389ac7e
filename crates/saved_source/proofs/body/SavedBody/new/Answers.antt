use Rattle.std.proofs.Common.{◌++◌, ◌∙◌, ap, arith, codes, length}
use Rattle.saved_source.proofs.FewElements.{left_is_small}
use Rattle.dap_types.specs.View.{dataset_view}
use Rattle.grid_projection.specs.Resolved.{marks_in}
use Rattle.sequence_select.specs.Selections.{selections}
use Rattle.saved_source.proofs.Streaming.{body_text, few_members}
use Rattle.saved_source.proofs.body.SavedBody.new.Goals as goal

pub invariant_of-result : goal.invariant_of-result
invariant_of-result c = record { few = few_members c.args.saved (dataset_view c.args.dataset.now) c.requires.dataset c.requires.well_formed }

pub returns-clause-text : goal.returns-clause-text
returns-clause-text c = λ ts holds.
    body_text _ (marks_in c.args.marks.now) (selections (dataset_view c.args.dataset.now) c.args.constraint.now) (dataset_view c.args.dataset.now) ts (ap marks_in c.in_ok-try_clone.ensures) c.in_ok-of_dataset.ensures
    (c.in_ok-head_of.ensures ∙ ap (λ l. l ++ codes "Data:\n") (c.bytes.ensures ∙ c.in_ok-text.ensures.text)) c.requires.dataset c.requires.suits holds

pub returns-clause-small : goal.returns-clause-small
returns-clause-small c = λ ok. omega (arith, ap length c.in_ok-text.ensures.text, c.in_ok-text.ensures.short)

pub returns-clause-fits : goal.returns-clause-fits
returns-clause-fits c = λ ok bytes file_name ts saved.
    left_is_small (marks_in c.args.marks.now) bytes file_name (dataset_view c.args.dataset.now) ts saved c.requires.suits (omega (arith, ap length c.in_ok-text.ensures.text, c.in_ok-text.ensures.short))
