-- The bytes of a part of a batch, by the rows that its elements stand in.
use Rattle.std.proofs.Common.{◌≡◌, ℕ, ◌+◌, ◌-◌, ◌*◌, ◌/◌, ◌%◌, ◌<◌, ◌≤◌, List, slice_index, take, drop, sym, ap, ◌∙◌, subst, arith, IsTrue}
use Rattle.std.proofs.Math.Nat.{mul-add-div_right, mul-add-mod_self_right, div-lt_iff_lt-mul, div-add-mod', zero-mul, mul-le-mul_left}
use Rattle.dap_types.specs.declared.declarations.BaseType.{BaseType}
use Rattle.dap_types.specs.declared.declarations.BaseType.TheVariants.{Byte, Int16, UInt16, Int32, UInt32, Float32, Float64, Text, Url}
use Rattle.hyperslab_plan.specs.Batches.{IsBatch}
use Rattle.hyperslab_plan.specs.Numbers.{is_number, number_size, width_of}
use Rattle.hyperslab_plan.specs.Plans.{place_in, IsDense}
use Rattle.hyperslab_plan.specs.declared.batch.Batch.{Batch}
use Rattle.hyperslab_plan.specs.declared.plan.Plan.{Plan}
use Rattle.hyperslab_plan.proofs.DenseLemmas.{dense}
use Rattle.hyperslab_plan.proofs.RunLemmas.{place-in_raw}
use Rattle.slab_fill.specs.Elements.{form_of, row_byte, batch_byte}
use Rattle.slab_fill.specs.Spots.{spot}

pub width_some : (base : BaseType) → 0 < width_of base
width_some Byte = omega arith
width_some Int16 = omega arith
width_some UInt16 = omega arith
width_some Int32 = omega arith
width_some UInt32 = omega arith
width_some Float32 = omega arith
width_some Float64 = omega arith
width_some Text = omega arith
width_some Url = omega arith

-- where the elements of a row stand, the first of them in that column
pub spot-place : (f : ℕ → ℕ) (per_row row_len jump row column p j : ℕ) → ((r i : ℕ) → i < per_row → f (r * per_row + i) ≡ r * row_len + i * jump) →
    row * per_row + column ≡ p → column + j < per_row → spot (row * row_len + column * jump) jump j ≡ f (p + j)
unfolding spot
spot-place f per_row row_len jump row column p j rows is lt =
    spread (row * row_len) column j jump ∙ sym (rows row (column + j) lt) ∙ ap f (three (row * per_row) column j ∙ ap (λ x. x + j) is)
  where
    spread : (a c j s : ℕ) → a + c * s + j * s ≡ a + (c + j) * s
    spread a c j s = omega arith

    three : (a b c : ℕ) → a + (b + c) ≡ a + b + c
    three a b c = omega arith

pub spot-dense : (f : ℕ → ℕ) (first size j : ℕ) → f (first + j) ≡ (first + j) * size → spot (first * size) size j ≡ f (first + j)
unfolding spot
spot-dense f first size j is = spread first j size ∙ sym is
  where
    spread : (a j s : ℕ) → a * s + j * s ≡ (a + j) * s
    spread a j s = omega arith

-- an element that stands at its place has its bytes in the raw bytes
pub element-room : (plan : Plan) (b : Batch) (place j len : ℕ) → IsTrue (is_number plan.base) → IsBatch plan b → len ≡ b.raw_len → j < b.count → place ≡ place_in plan j → place + number_size plan.base ≤ len
element-room plan b place j len number is raw below at =
    let size : plan.size ≡ number_size plan.base = plan.typed number in
    omega (arith, place-in_raw plan b j is below, size, at, raw)

-- byte k of a row that begins with element p
pub row-batch : (plan : Plan) (raw : List ℕ) (at step p k : ℕ) → IsTrue (is_number plan.base) → spot at step (k / width_of plan.base) ≡ place_in plan (p + k / width_of plan.base) →
    row_byte plan.base raw at step k ≡ batch_byte plan raw (p * width_of plan.base + k)
unfolding row_byte batch_byte
row-batch plan raw at step p k number is =
    let w_pos : 0 < width_of plan.base = width_some plan.base in
    let d : (p * width_of plan.base + k) / width_of plan.base ≡ p + k / width_of plan.base = mul-add-div_right w_pos p k in
    let m : (p * width_of plan.base + k) % width_of plan.base ≡ k % width_of plan.base = mul-add-mod_self_right p (width_of plan.base) k in
    ap (λ n. slice_index (form_of plan.base (take n (drop (spot at step (k / width_of plan.base)) raw))) (k % width_of plan.base)) (sym (plan.typed number))
    ∙ ap (λ x. slice_index (form_of plan.base (take plan.size (drop x raw))) (k % width_of plan.base)) (is ∙ ap (λ x. place_in plan x) (sym d))
    ∙ ap (λ x. slice_index (form_of plan.base (take plan.size (drop (place_in plan ((p * width_of plan.base + k) / width_of plan.base)) raw))) x) (sym m)

-- ---- a row of m elements, the first of which is element p of the batch
pub row-room : (plan : Plan) (b : Batch) (base : BaseType) (at step p m j len : ℕ) → base ≡ plan.base → IsTrue (is_number plan.base) → IsBatch plan b → len ≡ b.raw_len → p + m ≤ b.count →
    ((i : ℕ) → i < m → spot at step i ≡ place_in plan (p + i)) → j < m → spot at step j + number_size base ≤ len
row-room plan b base at step p m j len same number is raw inside placed lt =
    subst (λ x. spot at step j + number_size x ≤ len) (sym same) (element-room plan b (spot at step j) (p + j) len number is raw (omega arith) (placed j lt))

pub row-bytes : (plan : Plan) (base : BaseType) (raw : List ℕ) (at step p m k : ℕ) → base ≡ plan.base → IsTrue (is_number plan.base) → k / width_of plan.base < m →
    ((i : ℕ) → i < m → spot at step i ≡ place_in plan (p + i)) → row_byte base raw at step k ≡ batch_byte plan raw (p * width_of plan.base + k)
row-bytes plan base raw at step p m k same number lt placed =
    ap (λ x. row_byte x raw at step k) same ∙ row-batch plan raw at step p k number (placed (k / width_of plan.base) lt)

-- elements that stand end to end
pub dense-placed : (plan : Plan) (b : Batch) (first size m : ℕ) → size ≡ plan.size → IsDense plan → IsBatch plan b → first + m ≤ b.count → (i : ℕ) → i < m → spot (first * size) size i ≡ place_in plan (first + i)
dense-placed plan b first size m own end_to_end is inside i lt =
    spot-dense (place_in plan) first size i (dense plan b (first + i) end_to_end is (omega arith) ∙ ap (λ x. (first + i) * x) (sym own))

pub spot-start : (at step : ℕ) → spot at step 0 ≡ at
unfolding spot
spot-start at step = omega (arith, zero-mul step)

-- the bytes of part of a row are those of whole elements
pub in_elements : (w n k : ℕ) → 0 < w → n % w ≡ 0 → k < n → k / w < n / w
in_elements w n k some whole lt = (div-lt_iff_lt-mul some).1 (omega (arith, div-add-mod' n w))

-- the elements of a row from a column on
pub rows-placed : (plan : Plan) (per_row row_len jump row column p m : ℕ) → ((r i : ℕ) → i < per_row → place_in plan (r * per_row + i) ≡ r * row_len + i * jump) →
    row * per_row + column ≡ p → column + m ≤ per_row → (i : ℕ) → i < m → spot (row * row_len + column * jump) jump i ≡ place_in plan (p + i)
rows-placed plan per_row row_len jump row column p m rows is fits i lt = spot-place (place_in plan) per_row row_len jump row column p i rows is (omega arith)

-- a row after a whole one
pub next-row : (row per_row column n p : ℕ) → row * per_row + column ≡ p → n ≡ per_row - column → column ≤ per_row → (row + 1) * per_row + 0 ≡ p + n
next-row row per_row column n p is rest le = let split : (row + 1) * per_row ≡ row * per_row + per_row = once row per_row in omega arith
  where
    once : (q x : ℕ) → (q + 1) * x ≡ q * x + x
    once q x = omega arith

pub row-few : (row per_row : ℕ) → 0 < per_row → row ≤ row * per_row
row-few row per_row some = let up : row * 1 ≤ row * per_row = mul-le-mul_left row some in omega (arith, up)
