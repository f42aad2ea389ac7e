use Rattle.std.proofs.Common.{inr}
use Rattle.std.proofs.lemmas.Result.{err_from_is_err_and}
use Rattle.dap_types.proofs.Rules.{well_formed_without_fault}
use Rattle.dap_types.proofs.Whole.{fault-many, fault-none, fault-first}
use Rattle.dap_types.specs.View.{dataset_view}
use Rattle.dap_types.proofs.well_formed.check.Goals as goal

pub returns-then-branch-clause-first_fault : goal.returns-then-branch-clause-first_fault
returns-then-branch-clause-first_fault c =
    inr (fault-many (dataset_view c.args.dataset.now) c.in_ok-has_too_many.field-0 (rw c.items-members.ensures at c.in_ok-has_too_many.ensures) c.if-branch.true)

pub returns-in_err-check_level-clause-first_fault : goal.returns-in_err-check_level-clause-first_fault
returns-in_err-check_level-clause-first_fault c =
    let p = err_from_is_err_and c.from_residual-in_err-check_level.result c.from_residual-in_err-check_level.ensures.1 in
    rw (p.1, p.2) (fault-first (dataset_view c.args.dataset.now) c.in_ok-has_too_many.field-0 c.in_err-check_level.field-0.0
    (rw c.items-members.ensures at c.in_ok-has_too_many.ensures) c.if-branch.false (rw c.items-members.ensures at c.in_err-check_level.ensures))

pub returns-clause-well_formed : goal.returns-clause-well_formed
returns-clause-well_formed c =
    well_formed_without_fault (dataset_view c.args.dataset.now)
    (fault-none (dataset_view c.args.dataset.now) c.in_ok-has_too_many.field-0 _ (rw c.items-members.ensures at c.in_ok-has_too_many.ensures) c.if-branch.false
    (rw c.items-members.ensures at c.in_ok-check_level.ensures))
