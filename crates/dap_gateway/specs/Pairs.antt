-- What a cache shows.
use Rattle.std.specs.Prelude.{ℕ, List, Vec, map}
use Rattle.std.specs.Global.{Global}
use Rattle.dap_gateway.specs.declared.cache.Cache.{Cache}

-- a request and the body that is kept for it, as bytes
abbrev pub shown : Vec ℕ Global × List ℕ → List ℕ × List ℕ
shown e = (e.0.items, e.1)

-- the pairs, the most recently used first
abbrev pub pairs : Cache → List (List ℕ × List ℕ)
pairs c = map shown c.kept.entries

-- how many there may be
abbrev pub room_of : Cache → ℕ
room_of c = c.kept.cap
