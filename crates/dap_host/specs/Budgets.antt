-- How long a peer may be waited for. Times are nanoseconds.
use Rattle.std.specs.Prelude.{◌≡◌, ℕ, ◌+◌, ◌*◌, ◌/◌, ◌-◌, ◌^◌, min, Option, None, Some, MatchOption}
use Rattle.std.specs.Int.NonZero.{non_zero_u64_get}
use Rattle.std.specs.declared.num.NonZeroU64.{NonZeroU64}
use Rattle.std.specs.Duration.{as_nanos, max_nanos}
use Rattle.dap_host.specs.declared.budget.Budget.{Budget}

-- the whole seconds that so many bytes bring
abbrev pub earned : Option NonZeroU64 → ℕ → ℕ
earned None moved = 0
earned (Some each) moved = moved / non_zero_u64_get each

-- for how long the peer may be waited for in all: the base, and one second more for each so many bytes that moved
abbrev pub allowed : Budget → ℕ
allowed b = min (as_nanos b.base + earned b.bytes_per_second b.moved * 1_000_000_000) max_nanos

-- what is left of that, 0 where as much or more was waited
abbrev pub left : Budget → ℕ
left b = allowed b - as_nanos b.waited

-- one more wait, in which so many bytes moved. Both counts stay at the end of their type.
pub record IsSpent (before now : Budget) (time bytes : ℕ) : Type 0 where
  pub base : now.base ≡ before.base
  pub grows : now.bytes_per_second ≡ before.bytes_per_second
  pub waited : as_nanos now.waited ≡ min (as_nanos before.waited + time) max_nanos
  pub moved : now.moved ≡ min (before.moved + bytes) (2 ^ 64 - 1)

-- the same budget, of which nothing is spent
pub record IsFresh (before now : Budget) : Type 0 where
  pub base : now.base ≡ before.base
  pub grows : now.bytes_per_second ≡ before.bytes_per_second
  pub waited : as_nanos now.waited ≡ 0
  pub moved : now.moved ≡ 0

-- a budget of a base and of one second more for each so many bytes, none where that is 0; nothing of it is spent
pub record IsNew (b : Budget) (base each : ℕ) : Type 0 where
  pub base_nanos : as_nanos b.base ≡ base
  pub grows : MatchOption b.bytes_per_second (each ≡ 0) (λ n. non_zero_u64_get n ≡ each)
  pub waited : as_nanos b.waited ≡ 0
  pub moved : b.moved ≡ 0
