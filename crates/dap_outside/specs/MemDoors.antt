-- Doors in memory.
use Rattle.std.specs.Prelude.{ℕ, ◌-◌, List, length}
use Rattle.dap_outside.specs.declared.memory_door.MemDoor.{MemDoor}
use Rattle.dap_outside.specs.declared.memory_link.MemLink.{MemLink}

-- the links that are left
abbrev pub links_of : MemDoor → List MemLink
links_of d = d.links.items

-- those that came back, and for how many more there is room
abbrev pub back_of : MemDoor → List MemLink
back_of d = d.back.items

abbrev pub spare_of : MemDoor → ℕ
spare_of d = d.room - length d.back.items
