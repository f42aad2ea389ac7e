use Rattle.std.proofs.Common.{◌≡◌, [], Some, false, true, sym, ◌∙◌, ap}
use Rattle.std.specs.Option.{option_or}
use Rattle.std.proofs.lemmas.Result.{err_from_is_err_and}
use Rattle.dap_types.specs.View.{dataset_view}
use Rattle.dap_errors.specs.declared.spot.Spot.TheVariants as spots
use Rattle.grid_projection.specs.Marks.{path_of, last_slabs, placed, clash, row_of}
use Rattle.grid_projection.specs.First.{first_there}
use Rattle.grid_projection.specs.Items.{slab_tests, sliced_sizes}
use Rattle.grid_projection.proofs.Settling.{settled_whole, settled_of, member_of, no_slab_tests, all_settled}
use Rattle.grid_projection.specs.Members.{named}
use Rattle.grid_projection.specs.Resolved.{found_view, marks_in}
use Rattle.grid_projection.proofs.Marking.{slabs_refused, settled, marks_row}
use Rattle.grid_projection.proofs.Within.{row_within}
use Rattle.grid_projection.proofs.items.mark_item.Goals as goal

pub returns-in_err-row-clause-refused : goal.returns-in_err-row-clause-refused
returns-in_err-row-clause-refused c =
    let p = err_from_is_err_and c.from_residual-in_err-row.result c.from_residual-in_err-row.ensures.1 in
    rw (p.1, p.2) (slabs_refused (dataset_view c.args.members.now.dataset.now) (marks_in c.args.marks.now) c.args.number c.args.item.now c.in-Path.steps (found_view c.in-Some.found) c.in-Path.is c.if-number-gt-MOST.false
    (rw (c.deref.ensures.value, c.in_ok-path.ensures, c.items-steps.ensures) at c.in-Some.ensures) (rw c.items-steps.ensures at (sym c.is_sliced_inside.ensures ∙ c.if-is_sliced_inside.false))
    c.in_err-row.field-0.0 (rw (c.last_slabs-slabs.ensures, c.items-steps.ensures) at c.in_err-row.ensures.refused))

pub clashes-requires : goal.clashes-requires
clashes-requires c = rw c.deref-3.ensures.value (rw (c.in_ok-row.ensures.ok, c.last_slabs-slabs.ensures, c.items-steps.ensures, c.requires.row)
    (row_within (dataset_view c.args.members.now.dataset.now) (path_of c.in-Path.steps) (found_view c.in-Some.found) _ (spots.Item c.args.number) c.requires.members.well_formed
    (rw (c.deref.ensures.value, c.in_ok-path.ensures, c.items-steps.ensures) at c.in-Some.ensures) (rw (c.last_slabs-slabs.ensures, c.items-steps.ensures) at c.in_ok-row.ensures.accepted)))

pub add-requires : goal.add-requires
add-requires c = rw (c.in_ok-row.ensures.ok, c.last_slabs-slabs.ensures, c.items-steps.ensures, c.requires.row)
    (row_within (dataset_view c.args.members.now.dataset.now) (path_of c.in-Path.steps) (found_view c.in-Some.found) _ (spots.Item c.args.number) c.requires.members.well_formed
    (rw (c.deref.ensures.value, c.in_ok-path.ensures, c.items-steps.ensures) at c.in-Some.ensures) (rw (c.last_slabs-slabs.ensures, c.items-steps.ensures) at c.in_ok-row.ensures.accepted))

pub returns-then-clashes-clause-refused : goal.returns-then-clashes-clause-refused
returns-then-clashes-clause-refused c =
    settled (dataset_view c.args.members.now.dataset.now) (marks_in c.args.marks.now) c.args.number c.args.item.now c.in-Path.steps (found_view c.in-Some.found) c.in-Path.is c.if-number-gt-MOST.false
    (rw (c.deref.ensures.value, c.in_ok-path.ensures, c.items-steps.ensures) at c.in-Some.ensures) (rw c.items-steps.ensures at (sym c.is_sliced_inside.ensures ∙ c.if-is_sliced_inside.false))
    true (rw (c.last_slabs-slabs.ensures, c.items-steps.ensures) at c.in_ok-row.ensures.accepted)
    (rw (c.deref-3.ensures.value, c.in_ok-row.ensures.ok, c.last_slabs-slabs.ensures, c.items-steps.ensures) at (sym c.clashes.ensures ∙ c.if-clashes.true))

pub returns-clause-accepted : goal.returns-clause-accepted
returns-clause-accepted c =
    settled (dataset_view c.args.members.now.dataset.now) (marks_in c.args.marks.now) c.args.number c.args.item.now c.in-Path.steps (found_view c.in-Some.found) c.in-Path.is c.if-number-gt-MOST.false
    (rw (c.deref.ensures.value, c.in_ok-path.ensures, c.items-steps.ensures) at c.in-Some.ensures) (rw c.items-steps.ensures at (sym c.is_sliced_inside.ensures ∙ c.if-is_sliced_inside.false))
    false (rw (c.last_slabs-slabs.ensures, c.items-steps.ensures) at c.in_ok-row.ensures.accepted)
    (rw (c.deref-3.ensures.value, c.in_ok-row.ensures.ok, c.last_slabs-slabs.ensures, c.items-steps.ensures) at (sym c.clashes.ensures ∙ c.if-clashes.false))

pub returns-clause-marks : goal.returns-clause-marks
returns-clause-marks c = λ n.
    c.add.ensures.marks n
    ∙ ap (λ row. option_or (marks_in c.args.marks.now n) (placed c.in-Some.found.number row n)) (rw (c.last_slabs-slabs.ensures, c.items-steps.ensures) at c.in_ok-row.ensures.ok)
    ∙ ap (option_or (marks_in c.args.marks.now n))
    (sym (marks_row (dataset_view c.args.members.now.dataset.now) (marks_in c.args.marks.now) c.args.number c.args.item.now c.in-Path.steps (found_view c.in-Some.found) c.in-Path.is c.if-number-gt-MOST.false
    (rw (c.deref.ensures.value, c.in_ok-path.ensures, c.items-steps.ensures) at c.in-Some.ensures) (rw c.items-steps.ensures at (sym c.is_sliced_inside.ensures ∙ c.if-is_sliced_inside.false)) n))

pub returns-then-is_settled-clause-marks : goal.returns-then-is_settled-clause-marks
returns-then-is_settled-clause-marks c = λ n.
    let d = dataset_view c.args.members.now.dataset.now in
    let w = found_view c.in-Some.found in
    let f = marks_in c.args.marks.now in
    let found : named d (path_of c.in-Path.steps) ≡ Some w = rw (c.deref.ensures.value, c.in_ok-path.ensures, c.items-steps.ensures) at c.in-Some.ensures in
    let both = settled_whole c.last_slabs-slabs.result.now _ (sym c.is_settled.ensures ∙ c.if-is_settled.true) in
    let empty : last_slabs c.in-Path.steps ≡ [] = rw (c.last_slabs-slabs.ensures, c.items-steps.ensures) at both.0 in
    let settled_before = settled_of d f c.args.wholes.now.items w.number c.requires.wholes (rw c.deref-2.ensures.value at both.1) in
    settled_before.marked w.variable (member_of d (path_of c.in-Path.steps) w found) n
    ∙ ap (option_or (f n)) (sym (marks_row d f c.args.number c.args.item.now c.in-Path.steps w c.in-Path.is c.if-number-gt-MOST.false found
    (rw c.items-steps.ensures at (sym c.is_sliced_inside.ensures ∙ c.if-is_sliced_inside.false)) n
    ∙ ap (λ slabs. placed w.number (row_of w.variable slabs) n) empty))

pub returns-then-is_settled-clause-accepted : goal.returns-then-is_settled-clause-accepted
returns-then-is_settled-clause-accepted c =
    let d = dataset_view c.args.members.now.dataset.now in
    let w = found_view c.in-Some.found in
    let f = marks_in c.args.marks.now in
    let found : named d (path_of c.in-Path.steps) ≡ Some w = rw (c.deref.ensures.value, c.in_ok-path.ensures, c.items-steps.ensures) at c.in-Some.ensures in
    let both = settled_whole c.last_slabs-slabs.result.now _ (sym c.is_settled.ensures ∙ c.if-is_settled.true) in
    let empty : last_slabs c.in-Path.steps ≡ [] = rw (c.last_slabs-slabs.ensures, c.items-steps.ensures) at both.0 in
    let settled_before = settled_of d f c.args.wholes.now.items w.number c.requires.wholes (rw c.deref-2.ensures.value at both.1) in
    settled d f c.args.number c.args.item.now c.in-Path.steps w c.in-Path.is c.if-number-gt-MOST.false found
    (rw c.items-steps.ensures at (sym c.is_sliced_inside.ensures ∙ c.if-is_sliced_inside.false)) false
    (ap (λ slabs. first_there (slab_tests (sliced_sizes w.variable) slabs) (spots.Item c.args.number)) empty ∙ no_slab_tests (sliced_sizes w.variable) (spots.Item c.args.number))
    (ap (λ slabs. clash f w.number (row_of w.variable slabs)) empty ∙ settled_before.no_clash w.variable (member_of d (path_of c.in-Path.steps) w found))

pub returns-clause-wholes : goal.returns-clause-wholes
returns-clause-wholes c =
    let d = dataset_view c.args.members.now.dataset.now in
    let w = found_view c.in-Some.found in
    let f = marks_in c.args.marks.now in
    let found : named d (path_of c.in-Path.steps) ≡ Some w = rw (c.deref.ensures.value, c.in_ok-path.ensures, c.items-steps.ensures) at c.in-Some.ensures in
    let fine : clash f w.number (row_of w.variable c.last_slabs-slabs.result.now) ≡ false = rw (c.deref-3.ensures.value, c.in_ok-row.ensures.ok) at (sym c.clashes.ensures ∙ c.if-clashes.false) in
    all_settled d f (marks_in c.add.new.self) w.number w.variable c.last_slabs-slabs.result.now c.args.wholes.now.items _ (member_of d (path_of c.in-Path.steps) w found)
    c.in_ok-keep_whole.ensures c.requires.wholes fine (rw c.in_ok-row.ensures.ok at c.add.ensures.marks)
