use Rattle.std.proofs.Common.{◌≡◌, ℕ, ◌+◌, ◌/◌, ◌<◌, ◌≤◌, ◌^◌, List, arith, sym, ap, ◌∙◌, subst, refl}
use Rattle.hyperslab_plan.specs.Along.{starts, rel, Spaced}
use Rattle.hyperslab_plan.specs.Picked.{count_of, cost_of}
use Rattle.hyperslab_plan.specs.Shapes.{row_cost}
use Rattle.hyperslab_plan.proofs.PickedLemmas.{below-picked, spaced}
use Rattle.hyperslab_plan.proofs.NewLemmas.{plan-cut, plan-values, below-made, total-made, places-made, spent-made, places-none}
use Rattle.hyperslab_plan.proofs.ReadLemmas.{read-bound}
use Rattle.hyperslab_plan.proofs.SpentLemmas.{spent-empty}
use Rattle.hyperslab_plan.proofs.plan.Plan.new.Goals as goal

pub returns-then-count-eq0-clause-places : goal.returns-then-count-eq0-clause-places
returns-then-count-eq0-clause-places c =
    places-none c.of_rows.result c.args.slabs.now c.args.layout.now.steps c.args.layout.now.base c.requires.one_each c.of_rows.ensures.rows (sym c.count_all-count.ensures ∙ c.if-count-eq0.true)

pub returns-then-count-eq0-clause-cut : goal.returns-then-count-eq0-clause-cut
returns-then-count-eq0-clause-cut c =
    plan-cut c.of_rows.result c.args.slabs.now c.args.layout.now.steps c.args.layout.now.base c.requires.one_each (returns-then-count-eq0-clause-places c)

pub returns-then-count-eq0-clause-values : goal.returns-then-count-eq0-clause-values
returns-then-count-eq0-clause-values c =
    plan-values c.of_rows.result c.args.slabs.now c.args.layout.now.steps c.args.layout.now.base c.requires.one_each (returns-then-count-eq0-clause-places c)

pub returns-then-count-eq0-clause-spent : goal.returns-then-count-eq0-clause-spent
returns-then-count-eq0-clause-spent c = omega (arith, spent-empty c.of_rows.result c.of_rows.ensures.rows)

pub returns-then-count-eq0-clause-bound : goal.returns-then-count-eq0-clause-bound
returns-then-count-eq0-clause-bound c batches upto turn = read-bound c.of_rows.result batches upto (cost_of c.args.slabs.now c.args.layout.now.size) turn (returns-then-count-eq0-clause-spent c)

pub origin_of-origin-requires-clause-below : goal.origin_of-origin-requires-clause-below
origin_of-origin-requires-clause-below c =
    let some : 0 < count_of c.args.slabs.now = grind (arith, c.count_all-count.ensures, c.if-count-eq0.false) in
    let first : c.args.layout.now.base + starts c.args.slabs.now c.args.layout.now.steps + rel c.args.slabs.now c.args.layout.now.steps 0 < 2 ^ 63
    = below-picked c.args.slabs.now c.args.layout.now.steps c.args.layout.now.base c.requires.one_each c.requires.below 0 some in
    let same : starts c.args.slabs.now c.items-steps.result.now ≡ starts c.args.slabs.now c.args.layout.now.steps = ap (λ (ts : List ℕ). starts c.args.slabs.now ts) c.items-steps.ensures in
    omega (arith, first, same)

pub shape_of-requires-clause-spaced : goal.shape_of-requires-clause-spaced
shape_of-requires-clause-spaced c =
    let some : 0 < count_of c.args.slabs.now = grind (arith, c.count_all-count.ensures, c.if-count-eq0.false) in
    subst (λ (ts : List ℕ). Spaced c.args.slabs.now ts) (sym c.items-steps.ensures)
    (spaced c.args.slabs.now c.args.layout.now.steps c.args.layout.now.base c.requires.one_each some c.requires.below)

pub of_rows-requires-2-clause-below : goal.of_rows-requires-2-clause-below
of_rows-requires-2-clause-below c =
    below-made c.args.slabs.now c.args.layout.now.steps c.args.layout.now.base c.origin_of-origin.result c.count_all-count.result (c.count_all-count.result / c.in_ok-shape.shape.per_row) c.in_ok-shape.shape
    c.requires.one_each c.requires.below (c.origin_of-origin.ensures ∙ ap (λ (ts : List ℕ). c.args.layout.now.base + starts c.args.slabs.now ts) c.items-steps.ensures)
    (c.in_ok-shape.ensures.elements ∙ sym c.count_all-count.ensures) c.count_all-count.ensures refl
    (λ p inside. c.in_ok-shape.ensures.places p inside ∙ ap (λ (ts : List ℕ). rel c.args.slabs.now ts p) c.items-steps.ensures)

pub returns-clause-total : goal.returns-clause-total
returns-clause-total c =
    total-made c.of_rows-2.result c.in_ok-shape.shape c.count_all-count.result (count_of c.args.slabs.now) c.of_rows-2.ensures.shape c.of_rows-2.ensures.rows (c.in_ok-shape.ensures.elements ∙ sym c.count_all-count.ensures) c.count_all-count.ensures

pub returns-clause-places : goal.returns-clause-places
returns-clause-places c =
    places-made c.of_rows-2.result c.in_ok-shape.shape c.args.slabs.now c.args.layout.now.steps c.args.layout.now.base c.requires.one_each (returns-clause-total c)
    (c.of_rows-2.ensures.origin ∙ c.origin_of-origin.ensures ∙ ap (λ (ts : List ℕ). c.args.layout.now.base + starts c.args.slabs.now ts) c.items-steps.ensures)
    c.of_rows-2.ensures.shape (λ p inside. c.in_ok-shape.ensures.places p inside ∙ ap (λ (ts : List ℕ). rel c.args.slabs.now ts p) c.items-steps.ensures)

pub returns-clause-cut : goal.returns-clause-cut
returns-clause-cut c = plan-cut c.of_rows-2.result c.args.slabs.now c.args.layout.now.steps c.args.layout.now.base c.requires.one_each (returns-clause-places c)

pub returns-clause-values : goal.returns-clause-values
returns-clause-values c = plan-values c.of_rows-2.result c.args.slabs.now c.args.layout.now.steps c.args.layout.now.base c.requires.one_each (returns-clause-places c)

pub returns-clause-spent : goal.returns-clause-spent
returns-clause-spent c =
    spent-made c.of_rows-2.result c.in_ok-shape.shape c.count_all-count.result c.args.layout.now.size c.args.slabs.now (c.of_rows-2.ensures.size ∙ c.from-size.ensures) c.of_rows-2.ensures.shape c.of_rows-2.ensures.rows
    (c.in_ok-shape.ensures.elements ∙ sym c.count_all-count.ensures)
    (subst (λ x. row_cost c.in_ok-shape.shape x ≤ cost_of c.args.slabs.now x) c.from-size.ensures c.in_ok-shape.ensures.cost)

pub returns-clause-bound : goal.returns-clause-bound
returns-clause-bound c batches upto turn = read-bound c.of_rows-2.result batches upto (cost_of c.args.slabs.now c.args.layout.now.size) turn (returns-clause-spent c)
