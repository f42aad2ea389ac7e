-- How long one read and one write wait. Times are nanoseconds.
use Rattle.std.specs.Prelude.{ℕ, ⊤, min, Option, None, Some, if◌then◌else◌}
use Rattle.std.specs.Duration.{as_nanos}
use Rattle.dap_host.specs.Budgets.{IsSpent, left}
use Rattle.dap_host.specs.declared.budget.Budget.{Budget}
use Rattle.dap_host.specs.declared.read_limits.ReadLimits.{ReadLimits}
use Rattle.dap_host.specs.declared.write_limits.WriteLimits.{WriteLimits}

-- a time, or what is left of a budget where there is one and that is less
abbrev pub within : Option Budget → ℕ → ℕ
within None time = time
within (Some b) time = min time (left b)

-- the budget that runs for a message: none before its first byte
abbrev pub running : ReadLimits → Option Budget
running l = if l.begun then Some l.message else None

-- the next read: the gap, or what is left for the connection or for the message where that is less
abbrev pub read_wait : ReadLimits → ℕ
read_wait l = within (running l) (within l.connection (as_nanos l.gap))

-- the next write
abbrev pub write_wait : WriteLimits → ℕ
write_wait l = min (as_nanos l.gap) (left l.budget)

-- a budget that may not be there, after one more wait
abbrev pub AreSpent : Option Budget → Option Budget → ℕ → ℕ → Type 0
AreSpent None None waited bytes = ⊤
AreSpent None (Some b) waited bytes = ⊥
AreSpent (Some a) None waited bytes = ⊥
AreSpent (Some a) (Some b) waited bytes = IsSpent a b waited bytes
