use Rattle.std.proofs.Common.{◌++◌, subst, sym}
use Rattle.dap_outside.specs.Causes.{Rose}
use Rattle.dap_client.proofs.Values.{fault_piece, on_end, on_piece, refused_piece, rose_here, trailing_piece}
use Rattle.dap_client.specs.inner.Stages.{IsStage}
use Rattle.dap_client.proofs.stage.read_values.Goals as goal
use Rattle.std.proofs.Common.{inl, refl}

pub returns-then-used-piece-clause-stage : goal.returns-then-used-piece-clause-stage
returns-then-used-piece-clause-stage g c bytes put long none o =
    let (gained, stands, shows, sent) = c.in-Done.ensures.stands o.values o.lines o.stands in
    let (le, ends) = c.in-Done.ensures.done o.values o.lines o.stands in
    (gained, sent, subst (λ s. IsStage s (bytes ++ c.args.piece.now) (put ++ gained)) (sym c.refused.ensures) (trailing_piece c.args.decoder bytes c.args.piece.now put gained c.args.place c.in-Done.used o long none c.if-used-piece.true ends shows))

pub returns-in-More-clause-stage : goal.returns-in-More-clause-stage
returns-in-More-clause-stage g c bytes put long none o =
    let (gained, stands, shows, sent) = c.in-More.ensures.stands o.values o.lines o.stands in
    let further = c.in-More.ensures.more o.values o.lines o.stands in
    (gained, sent, (none, on_piece c.args.decoder c.push.new.self bytes c.args.piece.now put gained o c.push.ensures.dataset c.push.ensures.start c.push.ensures.place stands shows (inl further)))

pub returns-else-used-piece-clause-stage : goal.returns-else-used-piece-clause-stage
returns-else-used-piece-clause-stage g c bytes put long none o =
    let (gained, stands, shows, sent) = c.in-Done.ensures.stands o.values o.lines o.stands in
    let (le, ends) = c.in-Done.ensures.done o.values o.lines o.stands in
    (gained, sent, (none, on_end c.args.decoder c.push.new.self bytes c.args.piece.now put gained c.in-Done.used o c.push.ensures.dataset c.push.ensures.start c.push.ensures.place le c.if-used-piece.false ends stands shows))

pub returns-in-Refused-clause-stage : goal.returns-in-Refused-clause-stage
returns-in-Refused-clause-stage g c bytes put long none o =
    let (gained, stands, shows, sent) = c.in-Refused.ensures.stands o.values o.lines o.stands in
    let wrong = c.in-Refused.ensures.refused o.values o.lines o.stands in
    (gained, sent, refused_piece c.args.decoder bytes c.args.piece.now put gained c.in-Refused.field o none wrong shows)

pub returns-in-WriteFault-clause-stage : goal.returns-in-WriteFault-clause-stage
returns-in-WriteFault-clause-stage g c bytes put long none o =
    let (gained, some, sent) = c.in-WriteFault.ensures.some o.values o.lines o.stands in
    (gained, sent, fault_piece c.args.decoder bytes c.args.piece.now put gained o some)

pub returns-in-WriteFault-clause-cause : goal.returns-in-WriteFault-clause-cause
returns-in-WriteFault-clause-cause g c =
    let (bytes, put, long, o) = c.requires.stands in
    rose_here c.args.decoder bytes put (Rose (g.O.Sink.put_faults c.args.out.now) (g.O.Sink.put_faults c.push.new.out)) o c.in-WriteFault.ensures.cause

pub returns-in-WriteFault-clause-kept : goal.returns-in-WriteFault-clause-kept
returns-in-WriteFault-clause-kept g c = λ n. absurd (n refl)
