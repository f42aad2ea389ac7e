-- The elements of a plan that are read together, and the runs of bytes that are read.
use Rattle.std.specs.Prelude.{◌≡◌, ℕ, ◌+◌, ◌-◌, ◌*◌, ◌/◌, ◌%◌, ◌<◌, ◌≤◌, ◌==◌, ◌⊎◌, nat_lt, ◌&&◌, if◌then◌else◌, min, max, List, [], ◌∷◌, take, drop}
use Rattle.std.specs.List.{range_with_len, sum_by}
use Rattle.hyperslab_plan.specs.Plans.{total_of, width_in, size_in, per_row_in, row_bytes, place_of, place_in}
use Rattle.hyperslab_plan.specs.declared.batch.Batch.{Batch}
use Rattle.hyperslab_plan.specs.declared.batch.Run.{Run}
use Rattle.hyperslab_plan.specs.declared.plan.Plan.{Plan}
use Rattle.dap_types.specs.Limits.{most_piece}

-- as many whole rows as fit, each read from its first to its last element
unfoldable pub whole_rows : Plan → ℕ → Batch
whole_rows plan first =
    let rows = min plan.rows_at_once (plan.rows - first / plan.shape.per_row) in
    record { first = first; count = rows * plan.shape.per_row; runs = rows; raw_len = rows * plan.row_len }

-- as much of the rest of a row as fits
unfoldable pub row_part : Plan → ℕ → Batch
row_part plan first =
    let count = min plan.part (plan.shape.per_row - first % plan.shape.per_row) in
    record { first = first; count = count; runs = 1; raw_len = row_bytes plan count }

-- the batch at a position: whole rows at the beginning of a row, where a row fits; else a part of a row
unfoldable pub batch_of : Plan → ℕ → Batch
batch_of plan first =
    if (first % plan.shape.per_row == 0) && nat_lt 0 plan.rows_at_once then whole_rows plan first else row_part plan first

-- the k-th run of a batch: the row k, or the part of a row
unfoldable pub run_of : Plan → Batch → ℕ → Run
run_of plan b k = record {
  at = place_of plan (b.first + k * plan.shape.per_row);
  len = (if b.runs == 1 then b.raw_len else plan.row_len);
  into = k * plan.row_len;
}

-- it is the plan's batch at its first position
pub record IsBatch (plan : Plan) (b : Batch) : Type 0 where
  pub inside : b.first < total_of plan
  pub is : b ≡ batch_of plan b.first

-- n elements from a position on stand in one row, and have few enough bytes to be read together
pub record ArePart (plan : Plan) (first n : ℕ) : Type 0 where
  pub in_row : first % per_row_in plan + n ≤ per_row_in plan
  pub raw : row_bytes plan n ≤ most_piece
  pub xdr : n * width_in plan ≤ most_piece

-- so many whole rows begin at a position, and have few enough bytes to be read together
pub record AreRows (plan : Plan) (first rows : ℕ) : Type 0 where
  pub from_start : first % per_row_in plan ≡ 0
  pub left : first + rows * per_row_in plan ≤ total_of plan
  pub raw : rows * row_bytes plan (per_row_in plan) ≤ most_piece
  pub xdr : rows * per_row_in plan * width_in plan ≤ most_piece

-- a batch is part of a row or whole rows, and neither a longer part nor more rows can be read together
pub record IsLargest (plan : Plan) (b : Batch) : Type 0 where
  pub kind : ArePart plan b.first b.count ⊎ (rows : ℕ) × (b.count ≡ rows * per_row_in plan) × AreRows plan b.first rows
  pub part : (n : ℕ) → ArePart plan b.first n → n ≤ b.count
  pub rows : (n : ℕ) → AreRows plan b.first n → n * per_row_in plan ≤ b.count

-- the bytes that the runs of a batch read
unfoldable pub read_in : Plan → Batch → ℕ
read_in plan b = sum_by (λ k. (run_of plan b k).len) (range_with_len 0 b.runs)

-- batches one after the other, from a position up to another
abbrev pub InTurn : Plan → List Batch → ℕ → ℕ → Type 0
InTurn plan [] from upto = from ≡ upto
InTurn plan (b ∷ batches) from upto = IsBatch plan b × (b.first ≡ from) × InTurn plan batches (from + b.count) upto

-- the bytes that the runs of some batches read
unfoldable pub read_by : Plan → List Batch → ℕ
read_by plan batches = sum_by (read_in plan) batches

-- the bytes that all batches before a position read at most
abbrev pub spent_by : ℕ → ℕ → ℕ → ℕ → ℕ
spent_by n g size p = p / n * ((n - 1) * g + size) + p % n * g

unfoldable pub spent : Plan → ℕ → ℕ
spent plan p = spent_by plan.shape.per_row (max plan.shape.jump plan.size) plan.size p

-- what every batch keeps to
pub record Bounded (plan : Plan) (b : Batch) : Type 0 where
  pub some : 0 < b.count
  pub within : b.first + b.count ≤ total_of plan
  pub runs : 0 < b.runs
  pub raw : b.raw_len ≤ most_piece
  pub xdr : b.count * width_in plan ≤ most_piece
  pub cost : spent plan b.first + b.raw_len ≤ spent plan (b.first + b.count)

-- the runs fill the raw bytes one after the other
pub record Fills (plan : Plan) (b : Batch) : Type 0 where
  pub first : (run_of plan b 0).into ≡ 0
  pub next : (k : ℕ) → k + 1 < b.runs → (run_of plan b (k + 1)).into ≡ (run_of plan b k).into + (run_of plan b k).len
  pub last : (k : ℕ) → k + 1 ≡ b.runs → (run_of plan b k).into + (run_of plan b k).len ≡ b.raw_len

-- one of the batch's elements begins there
abbrev pub ElementBeginsAt : Plan → Batch → ℕ → Type 0
ElementBeginsAt plan b at = (j : ℕ) × (j < b.count) × (place_of plan (b.first + j) ≡ at)

-- one of the batch's elements ends there
abbrev pub ElementEndsAt : Plan → Batch → ℕ → Type 0
ElementEndsAt plan b end = (j : ℕ) × (j < b.count) × (place_of plan (b.first + j) + size_in plan ≡ end)

-- the raw bytes of a batch: each run's bytes are those of the file
abbrev pub Fetched : Plan → Batch → List ℕ → List ℕ → Type 0
Fetched plan b file raw = (k : ℕ) → k < b.runs →
    take (run_of plan b k).len (drop (run_of plan b k).into raw) ≡ take (run_of plan b k).len (drop (run_of plan b k).at file)

-- the bytes of element j of a batch stand in one run, at their place in the file
pub record Held (plan : Plan) (b : Batch) (j : ℕ) : Type 0 where
  pub run : ℕ
  pub is_run : run < b.runs
  pub from : (run_of plan b run).into ≤ place_in plan j
  pub to : place_in plan j + size_in plan ≤ (run_of plan b run).into + (run_of plan b run).len
  pub at : (run_of plan b run).at + place_in plan j ≡ place_of plan (b.first + j) + (run_of plan b run).into
