use Rattle.std.proofs.Common.{◌≡◌, ◌∙◌, ap, refl, sym}
use Rattle.dap_http.specs.Framings.{start_of}
use Rattle.dap_http.specs.inner.Putting.{body_in, gained_by}
use Rattle.dap_http.proofs.Framed.{grown-none, told-none}
use Rattle.dap_http.proofs.framer.Framer.over.Goals as goal

pub returns-clause-written : goal.returns-clause-written
returns-clause-written g c =
    let w = g.O.Sink.written c.args.out.now in
    let start : start_of g.O.Sink.written c.and-began.result.items ≡ w = rw (c.and-began.ensures, c.new.ensures) refl in
    told-none _ w (gained_by c.args.self.gathered) (body_in c.args.self.gathered) (sym start) c.args.self.nothing c.args.self.no_body

pub invariant_of-result : goal.invariant_of-result
invariant_of-result g c =
    let w = g.O.Sink.written c.args.out.now in
    let start : start_of g.O.Sink.written c.and-began.result.items ≡ w = rw (c.and-began.ensures, c.new.ensures) refl in
    record { grows = grown-none _ w (sym start) }
