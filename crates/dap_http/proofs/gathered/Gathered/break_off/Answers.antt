use Rattle.dap_http.specs.inner.Putting.{body_in, front_in, gained_by}
use Rattle.dap_http.proofs.Ends.{is-broken, not-broken}
use Rattle.dap_http.proofs.gathered.Gathered.break_off.Goals as goal

pub returns-clause-ok : goal.returns-clause-ok
returns-clause-ok g c =
    let s = c.args.self.now in
    is-broken c.put_all.result _ _ (gained_by s) _ (front_in s) s.chunked (body_in s) c.ready-end.ensures.breaks (rw c.deref.ensures.value at c.put_all.ensures.ok)

pub returns-clause-err : goal.returns-clause-err
returns-clause-err g c =
    let s = c.args.self.now in
    not-broken c.put_all.result _ _ (gained_by s) _ (front_in s) s.chunked (body_in s) c.ready-end.ensures.breaks (rw c.deref.ensures.value at c.put_all.ensures.err)
