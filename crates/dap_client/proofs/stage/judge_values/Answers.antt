use Rattle.std.proofs.Common.{◌++◌, inl, subst, sym}
use Rattle.dap_client.proofs.Values.{on_end, on_piece, refused_piece, rose_here, trailing_piece}
use Rattle.dap_client.specs.inner.Stages.{IsStage}
use Rattle.dap_client.proofs.stage.judge_values.Goals as goal

pub returns-then-used-piece-clause-stage : goal.returns-then-used-piece-clause-stage
returns-then-used-piece-clause-stage c bytes put long none o =
    let (text, stands, shows) = c.in-Done.ensures.stands o.values o.lines o.stands in
    let (le, ends) = c.in-Done.ensures.done o.values o.lines o.stands in
    (text, tt, subst (λ s. IsStage s (bytes ++ c.args.piece.now) (put ++ text)) (sym c.refused.ensures) (trailing_piece c.args.decoder bytes c.args.piece.now put text c.args.place c.in-Done.used o long none c.if-used-piece.true ends shows))

pub returns-in-More-clause-stage : goal.returns-in-More-clause-stage
returns-in-More-clause-stage c bytes put long none o =
    let (text, stands, shows) = c.in-More.ensures.stands o.values o.lines o.stands in
    let further = c.in-More.ensures.more o.values o.lines o.stands in
    (text, tt, (none, on_piece c.args.decoder c.judge.new.self bytes c.args.piece.now put text o c.judge.ensures.dataset c.judge.ensures.start c.judge.ensures.place stands shows (inl further)))

pub returns-else-used-piece-clause-stage : goal.returns-else-used-piece-clause-stage
returns-else-used-piece-clause-stage c bytes put long none o =
    let (text, stands, shows) = c.in-Done.ensures.stands o.values o.lines o.stands in
    let (le, ends) = c.in-Done.ensures.done o.values o.lines o.stands in
    (text, tt, (none, on_end c.args.decoder c.judge.new.self bytes c.args.piece.now put text c.in-Done.used o c.judge.ensures.dataset c.judge.ensures.start c.judge.ensures.place le c.if-used-piece.false ends stands shows))

pub returns-in-Refused-clause-stage : goal.returns-in-Refused-clause-stage
returns-in-Refused-clause-stage c bytes put long none o =
    let (text, stands, shows) = c.in-Refused.ensures.stands o.values o.lines o.stands in
    let wrong = c.in-Refused.ensures.refused o.values o.lines o.stands in
    (text, tt, refused_piece c.args.decoder bytes c.args.piece.now put text c.in-Refused.field o none wrong shows)

pub returns-in-WriteFault-clause-stage : goal.returns-in-WriteFault-clause-stage
returns-in-WriteFault-clause-stage c bytes put long none o = absurd (rose_here c.args.decoder bytes put ⊥ o (inl c.in-WriteFault.ensures.cause))

pub returns-in-WriteFault-clause-cause : goal.returns-in-WriteFault-clause-cause
returns-in-WriteFault-clause-cause c =
    let (bytes, put, long, o) = c.requires.stands in rose_here c.args.decoder bytes put ⊥ o (inl c.in-WriteFault.ensures.cause)
