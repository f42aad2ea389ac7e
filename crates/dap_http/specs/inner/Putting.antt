-- What a body under way holds.
use Rattle.std.specs.Prelude.{ℕ, List}
use Rattle.dap_http.specs.inner.UnderWay.{body_of, frames_of, front_before, gained_of}
use Rattle.dap_http.specs.declared.gathered.Gathered.{Gathered}

-- what goes out before the body
abbrev pub front_in : Gathered → List ℕ
front_in g = front_before g.chunked (frames_of g.whole.items) g.frame.items g.from

-- the body bytes that were put
abbrev pub body_in : Gathered → List ℕ
body_in g = body_of (frames_of g.whole.items) g.frame.items g.from

-- what both have become so far
abbrev pub gained_by : Gathered → List ℕ
gained_by g = gained_of (frames_of g.whole.items) g.frame.items g.sent
