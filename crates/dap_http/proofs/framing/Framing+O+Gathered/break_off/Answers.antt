use Rattle.dap_http.specs.inner.Putting.{body_in, front_in, gained_by}
use Rattle.dap_http.proofs.Framed.{err-broken, gains-of, grown, grown-on, part-broken, proper-broken}
use Rattle.dap_http.proofs.framing.Framing+O+Gathered.break_off.Goals as goal

pub returns-clause-part : goal.returns-clause-part
returns-clause-part g c =
    let s = c.args.self in
    let w = s.gathered in
    part-broken c.break_off.result _ _ _ (gained_by w) (body_in w) (front_in w) w.chunked c.break_off.ensures.ok

pub returns-clause-proper : goal.returns-clause-proper
returns-clause-proper g c =
    let s = c.args.self in
    let w = s.gathered in
    proper-broken c.break_off.result _ _ _ (gained_by w) (body_in w) (front_in w) w.chunked c.break_off.ensures.ok

pub returns-clause-err : goal.returns-clause-err
returns-clause-err g c =
    let s = c.args.self in
    let w = s.gathered in
    err-broken c.break_off.result _ _ _ (gained_by w) (body_in w) (front_in w) w.chunked c.break_off.ensures.err

pub returns-clause-grown : goal.returns-clause-grown
returns-clause-grown g c =
    let s = c.args.self in
    grown _ _ _ s.grows (gains-of c.break_off.result _ _ _ _ c.break_off.ensures.ok c.break_off.ensures.err)

pub invariant_of-self : goal.invariant_of-self
invariant_of-self g c =
    let s = c.args.self in
    let (x, more) = gains-of c.break_off.result _ _ _ _ c.break_off.ensures.ok c.break_off.ensures.err in
    record { grows = grown-on _ _ _ x s.grows more }
