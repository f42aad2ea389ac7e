-- Dials in memory.
use Rattle.std.specs.Prelude.{ℕ, ◌-◌, List, [], ◌∷◌, length, take}
use Rattle.dap_outside.specs.declared.memory_dial.Called.{Called}
use Rattle.dap_outside.specs.declared.memory_dial.MemDial.{MemDial}
use Rattle.dap_outside.specs.declared.memory_link.MemLink.{MemLink}

-- the links that are left
abbrev pub links_of : MemDial → List MemLink
links_of d = d.links.items

-- those that came back, and for how many more there is room
abbrev pub back_of : MemDial → List MemLink
back_of d = d.back.items

abbrev pub spare_of : MemDial → ℕ
spare_of d = d.room - length d.back.items

-- a host and a port
abbrev pub place_of : Called → List ℕ × ℕ
place_of c = (take c.len c.host, c.port)

-- each link that came back, behind the place that it went to
abbrev pub told_back : List Called → List MemLink → List ((List ℕ × ℕ) × MemLink)
told_back [] links = []
told_back (c ∷ cs) [] = []
told_back (c ∷ cs) (l ∷ links) = (place_of c, l) ∷ told_back cs links
