-- Where the bytes of a name are kept.
use Rattle.std.specs.Prelude.{ℕ, ◌≡◌, ◌≤◌, List, length, take}
use Rattle.std.specs.Arc.{arc_value}
use Rattle.dap_types.specs.declared.held.Held.{Held}
use Rattle.dap_types.specs.declared.held.Held.TheVariants.{Here, There}

-- the bytes
abbrev pub held_bytes : Held → List ℕ
held_bytes (Here count bytes) = take count bytes
held_bytes (There b) = (arc_value b).items

-- in place there is room for 20
abbrev pub IsHeld : Held → Type 0
IsHeld (Here count bytes) = (count ≤ 20) × (length bytes ≡ 20)
IsHeld (There b) = Unit {0}
