-- The calls of objects in memory.
use Rattle.std.specs.Prelude.{◌≡◌, ◌+◌, ◌-◌, ◌^◌, ◌⊎◌, ◌↔◌, min, Result, IsErr, is_ok, Contains, if◌then◌else◌}
use Rattle.dap_outside.specs.declared.calls.Calls.{Calls}

-- One more call: it fails exactly where its number is listed or it is refused, and the count of faults rises exactly then. Both numbers stay at their end.
pub record IsOneMore {T E : Type 0} (before now : Calls) (Refused : Type 0) (result : Result T E) : Type 0 where
  pub number : now.made ≡ min (before.made + 1) (2 ^ 64 - 1)
  pub fails : IsErr result ↔ (Refused ⊎ Contains now.fails now.made)
  pub faults : now.faults ≡ (if is_ok result then before.faults else min (before.faults + 1) (2 ^ 64 - 1))
  pub list : now.fails ≡ before.fails
