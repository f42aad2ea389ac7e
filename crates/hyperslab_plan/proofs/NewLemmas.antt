-- The plan that `new` makes has the places that the hyperslabs pick.
use Rattle.std.proofs.Common.{◌≡◌, ℕ, ◌+◌, ◌*◌, ◌/◌, ◌<◌, ◌≤◌, List, sym, ap, ◌∙◌, subst, arith, zero-add, ◌^◌, length, Some, map}
use Rattle.std.proofs.Math.Nat.{mul-le-mul_right, zero-mul, one-mul, mul-div_left}
use Rattle.std.proofs.lemmas.List.FromFn.{fill_by_all, length-map-range_with_len}
use Rattle.std.specs.List.{All}
use Rattle.std.specs.Prelude.{slice_get}
use Rattle.dap_types.specs.declared.slabs.Slab.{Slab}
use Rattle.dap_types.specs.declared.values.Value.{Value}
use Rattle.dap_model.specs.Cutting.{AreWithin}
use Rattle.hyperslab_plan.specs.Along.{starts, rel}
use Rattle.hyperslab_plan.specs.Axes.{rows_of}
use Rattle.hyperslab_plan.specs.Batches.{spent}
use Rattle.hyperslab_plan.specs.Nested.{cut_places, cut_values}
use Rattle.hyperslab_plan.specs.Picked.{picked, count_of, cost_of}
use Rattle.hyperslab_plan.specs.Plans.{place_of, places}
use Rattle.hyperslab_plan.specs.Shapes.{elements, rel_at, row_cost}
use Rattle.hyperslab_plan.specs.declared.plan.Plan.{Plan}
use Rattle.hyperslab_plan.specs.declared.shape.Shape.{Shape}
use Rattle.hyperslab_plan.proofs.CutLemmas.{slice_get-range, cut_places-picked, cut_values-picked}
use Rattle.hyperslab_plan.proofs.PickedLemmas.{length-picked, get_or-picked, below-picked}
use Rattle.hyperslab_plan.proofs.RowLemmas.{rows_pos}
use Rattle.hyperslab_plan.proofs.SpentLemmas.{spent-cost}

pub plan-places : (plan : Plan) (slabs : List Slab) (steps : List ℕ) (base : ℕ) → length slabs ≡ length steps → plan.total ≡ count_of slabs →
    ((p : ℕ) → p < count_of slabs → place_of plan p ≡ base + starts slabs steps + rel slabs steps p) → places plan ≡ picked slabs steps base
unfolding places
plan-places plan slabs steps base e total at =
    sym (fill_by_all (place_of plan) (picked slabs steps base) plan.total 0 (length-picked slabs steps base e ∙ sym total)
    (λ k below. let inside : k < count_of slabs = omega (arith, total) in get_or-picked slabs steps base k e inside ∙ sym (at k inside)))

pub plan-cut : (plan : Plan) (slabs : List Slab) (steps : List ℕ) (base : ℕ) → length slabs ≡ length steps → places plan ≡ picked slabs steps base →
    (sizes : List ℕ) → AreWithin slabs sizes → places plan ≡ cut_places slabs sizes steps base
plan-cut plan slabs steps base e at sizes within = at ∙ sym (cut_places-picked slabs sizes steps base within e)

pub plan-values : (plan : Plan) (slabs : List Slab) (steps : List ℕ) (base : ℕ) → length slabs ≡ length steps → places plan ≡ picked slabs steps base →
    (sizes : List ℕ) (value : ℕ → Value) → AreWithin slabs sizes → map value (places plan) ≡ cut_values slabs value sizes steps base
plan-values plan slabs steps base e at sizes value within = ap (map value) at ∙ sym (cut_values-picked slabs value sizes steps base within e)

pub rows-are : (s : Shape) (count : ℕ) → elements s ≡ count → count / s.per_row ≡ rows_of s.outer.items
rows-are s count e = ap (λ x. x / s.per_row) (sym e) ∙ mul-div_left (rows_of s.outer.items) s.filled

pub all-rows : (s : Shape) (count : ℕ) → elements s ≡ count → count / s.per_row * s.per_row ≡ count
all-rows s count e = ap (λ x. x * s.per_row) (rows-are s count e) ∙ e

pub row-in : (s : Shape) (count : ℕ) → elements s ≡ count → s.per_row ≤ count
row-in s count e =
    let pos : 1 ≤ rows_of s.outer.items = rows_pos s.outer.items s.counted in
    let up : 1 * s.per_row ≤ rows_of s.outer.items * s.per_row = mul-le-mul_right s.per_row pos in
    omega (arith, up, one-mul s.per_row, e)

pub below-made : (slabs : List Slab) (steps : List ℕ) (base origin count rows : ℕ) (s : Shape) → length slabs ≡ length steps → All (λ a. a < 2 ^ 63) (picked slabs steps base) →
    origin ≡ base + starts slabs steps → elements s ≡ count → count ≡ count_of slabs → rows ≡ count / s.per_row → ((p : ℕ) → p < count_of slabs → rel_at s p ≡ rel slabs steps p) →
    (p : ℕ) → p < rows * s.per_row → origin + rel_at s p < 2 ^ 63
below-made slabs steps base origin count rows s e all origin_is elements_is count_is rows_is at p below =
    let whole : rows * s.per_row ≡ count_of slabs = ap (λ x. x * s.per_row) rows_is ∙ all-rows s count elements_is ∙ count_is in
    let inside : p < count_of slabs = omega (arith, whole) in
    let place : base + starts slabs steps + rel slabs steps p < 2 ^ 63 = below-picked slabs steps base e all p inside in
    omega (arith, place, origin_is, at p inside)

pub total-made : (plan : Plan) (s : Shape) (count all : ℕ) → plan.shape ≡ s → plan.rows ≡ count / s.per_row → elements s ≡ count → count ≡ all → plan.total ≡ all
total-made plan s count all shape_is rows_is elements_is count_is =
    sym plan.whole ∙ ap (λ x. x * plan.shape.per_row) rows_is ∙ ap (λ (x : Shape). count / s.per_row * x.per_row) shape_is ∙ all-rows s count elements_is ∙ count_is

pub places-made : (plan : Plan) (s : Shape) (slabs : List Slab) (steps : List ℕ) (base : ℕ) → length slabs ≡ length steps → plan.total ≡ count_of slabs → plan.origin ≡ base + starts slabs steps → plan.shape ≡ s →
    ((p : ℕ) → p < count_of slabs → rel_at s p ≡ rel slabs steps p) → places plan ≡ picked slabs steps base
places-made plan s slabs steps base e total origin_is shape_is at =
    plan-places plan slabs steps base e total
    (λ p inside. ap (λ x. x + rel_at plan.shape p) origin_is ∙ ap (λ (x : Shape). base + starts slabs steps + rel_at x p) shape_is ∙ ap (λ x. base + starts slabs steps + x) (at p inside))

pub spent-made : (plan : Plan) (s : Shape) (count size : ℕ) (slabs : List Slab) → plan.size ≡ size → plan.shape ≡ s → plan.rows ≡ count / s.per_row → elements s ≡ count → row_cost s size ≤ cost_of slabs size → spent plan plan.total ≤ cost_of slabs size
spent-made plan s count size slabs size_is shape_is rows_is elements_is cost =
    spent-cost plan slabs size size_is (rows_is ∙ rows-are s count elements_is ∙ ap (λ (x : Shape). rows_of x.outer.items) (sym shape_is))
    (subst (λ (x : Shape). row_cost x size ≤ cost_of slabs size) (sym shape_is) cost)

pub total-none : (plan : Plan) → plan.rows ≡ 0 → plan.total ≡ 0
total-none plan none = sym plan.whole ∙ ap (λ x. x * plan.shape.per_row) none ∙ zero-mul plan.shape.per_row

pub places-none : (plan : Plan) (slabs : List Slab) (steps : List ℕ) (base : ℕ) → length slabs ≡ length steps → plan.rows ≡ 0 → count_of slabs ≡ 0 → places plan ≡ picked slabs steps base
places-none plan slabs steps base e none empty =
    plan-places plan slabs steps base e (total-none plan none ∙ sym empty) (λ p inside. absurd (omega (arith, empty)))

pub length-places : (plan : Plan) → length (places plan) ≡ plan.total
unfolding places
length-places plan = length-map-range_with_len (place_of plan) 0 plan.total

pub get-places : (plan : Plan) (p : ℕ) → p < plan.total → slice_get (places plan) p ≡ Some (place_of plan p)
unfolding places
get-places plan p inside = slice_get-range (place_of plan) 0 plan.total p inside ∙ ap (λ x. Some (place_of plan x)) (zero-add p)
