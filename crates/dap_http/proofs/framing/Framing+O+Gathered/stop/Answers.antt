use Rattle.dap_http.specs.inner.Putting.{body_in, front_in, gained_by}
use Rattle.dap_http.proofs.Ends.{way-on, way-part}
use Rattle.dap_http.proofs.Framed.{grown-appends, so-far, unfinished}
use Rattle.dap_http.proofs.framing.Framing+O+Gathered.stop.Goals as goal

pub returns-clause-part : goal.returns-clause-part
returns-clause-part g c =
    let s = c.args.self in
    let w = s.gathered in
    so-far _ _ (gained_by w) (body_in w) (front_in w) w.chunked
    (λ more. way-part w.chunked (front_in w) w.frame.items (body_in w) (gained_by w) more w.from w.sent w.under_way)

pub returns-clause-proper : goal.returns-clause-proper
returns-clause-proper g c =
    let s = c.args.self in
    let w = s.gathered in
    unfinished _ _ (gained_by w) (body_in w) (front_in w) w.chunked
    (λ more goes. way-on w.chunked (front_in w) w.frame.items (body_in w) (gained_by w) more w.from w.sent goes w.under_way)

pub returns-clause-grown : goal.returns-clause-grown
returns-clause-grown g c = let s = c.args.self in grown-appends _ _ s.grows
