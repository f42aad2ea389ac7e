-- Positions by rows: the elements of a row are equally spaced.
use Rattle.std.proofs.Common.{◌≡◌, ℕ, ◌+◌, ◌*◌, ◌/◌, ◌%◌, ◌<◌, ap, ◌∙◌, arith, add-zero}
use Rattle.std.proofs.Math.Nat.{mod-eq_of_lt, div-eq_of_lt, div-add-mod', mul-add-div_right, mul-add-mod_self_right}
use Rattle.hyperslab_plan.specs.Axes.{row_at}
use Rattle.hyperslab_plan.specs.Plans.{place_of, place_in}
use Rattle.hyperslab_plan.specs.declared.plan.Plan.{Plan}

pub along-div : (n q c : ℕ) → c < n → (q * n + c) / n ≡ q
along-div n q c lt = let pos : 0 < n = omega arith in mul-add-div_right pos q c ∙ ap (λ x. q + x) (div-eq_of_lt lt) ∙ add-zero q

pub along-mod : (n q c : ℕ) → c < n → (q * n + c) % n ≡ c
along-mod n q c lt = mul-add-mod_self_right q n c ∙ mod-eq_of_lt lt

-- elements of a row are equally spaced
pub place-along : (plan : Plan) (p i : ℕ) → p % plan.shape.per_row + i < plan.shape.per_row → place_of plan (p + i) ≡ place_of plan p + i * plan.shape.jump
place-along plan p i lt =
    let n : ℕ = plan.shape.per_row in
    let whole : p / plan.shape.per_row * plan.shape.per_row + p % plan.shape.per_row ≡ p = div-add-mod' p plan.shape.per_row in
    let e : p + i ≡ p / plan.shape.per_row * plan.shape.per_row + (p % plan.shape.per_row + i) = omega (arith, whole) in
    let d : (p + i) / plan.shape.per_row ≡ p / plan.shape.per_row = ap (λ x. x / plan.shape.per_row) e ∙ along-div plan.shape.per_row (p / plan.shape.per_row) (p % plan.shape.per_row + i) lt in
    let m : (p + i) % plan.shape.per_row ≡ p % plan.shape.per_row + i = ap (λ x. x % plan.shape.per_row) e ∙ along-mod plan.shape.per_row (p / plan.shape.per_row) (p % plan.shape.per_row + i) lt in
    ap (λ x. plan.origin + (row_at plan.shape.outer.items x + (p + i) % plan.shape.per_row * plan.shape.jump)) d
    ∙ ap (λ x. plan.origin + (row_at plan.shape.outer.items (p / plan.shape.per_row) + x * plan.shape.jump)) m ∙ omega arith

pub place-row : (plan : Plan) (r i : ℕ) → i < plan.shape.per_row → place_in plan (r * plan.shape.per_row + i) ≡ r * plan.row_len + i * plan.shape.jump
unfolding place_in
place-row plan r i lt =
    ap (λ x. x * plan.row_len + (r * plan.shape.per_row + i) % plan.shape.per_row * plan.shape.jump) (along-div plan.shape.per_row r i lt)
    ∙ ap (λ x. r * plan.row_len + x * plan.shape.jump) (along-mod plan.shape.per_row r i lt)
