use Rattle.dap_http.specs.inner.Putting.{body_in, front_in, gained_by}
use Rattle.dap_http.proofs.Framed.{err-end, gains-of, grown, grown-on, ok-end}
use Rattle.dap_http.proofs.framing.Framing+O+Gathered.end.Goals as goal

pub returns-clause-ok : goal.returns-clause-ok
returns-clause-ok g c =
    let s = c.args.self in
    let w = s.gathered in
    ok-end c.end.result _ _ _ (gained_by w) (body_in w) (front_in w) w.chunked c.end.ensures.ok

pub returns-clause-err : goal.returns-clause-err
returns-clause-err g c =
    let s = c.args.self in
    let w = s.gathered in
    err-end c.end.result _ _ _ (gained_by w) (body_in w) (front_in w) w.chunked c.end.ensures.err

pub returns-clause-grown : goal.returns-clause-grown
returns-clause-grown g c =
    let s = c.args.self in
    grown _ _ _ s.grows (gains-of c.end.result _ _ _ _ c.end.ensures.ok c.end.ensures.err)

pub invariant_of-self : goal.invariant_of-self
invariant_of-self g c =
    let s = c.args.self in
    let (x, more) = gains-of c.end.result _ _ _ _ c.end.ensures.ok c.end.ensures.err in
    record { grows = grown-on _ _ _ x s.grows more }
