use Rattle.dap_http.specs.inner.Putting.{body_in, gained_by}
use Rattle.dap_http.proofs.Framed.{grown-on, told-failed, told-put}
use Rattle.dap_http.proofs.framing.FramingGatheredSink.put.Goals as goal

pub returns-clause-bytes : goal.returns-clause-bytes
returns-clause-bytes g c =
    let s = c.args.self.now in
    let n = c.accept.new.self in
    let (x, gains, more) = c.accept.ensures.gains in
    told-put c.accept.result _ _ _ (gained_by s.gathered) (gained_by n) (body_in s.gathered) (body_in n) x c.args.bytes.now s.grows more gains c.accept.ensures.body

pub returns-clause-err : goal.returns-clause-err
returns-clause-err g c =
    let s = c.args.self.now in
    let n = c.accept.new.self in
    let (x, gains, more) = c.accept.ensures.gains in
    told-failed c.accept.result _ _ _ (gained_by s.gathered) (gained_by n) (body_in s.gathered) (body_in n) x s.grows more gains c.accept.ensures.err

pub invariant_of-self : goal.invariant_of-self
invariant_of-self g c =
    let s = c.args.self.now in
    let (x, gains, more) = c.accept.ensures.gains in
    record { grows = grown-on _ _ _ x s.grows more }
