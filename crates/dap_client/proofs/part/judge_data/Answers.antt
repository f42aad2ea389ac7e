use Rattle.std.proofs.Common.{◌++◌, refl, sym, ◌∙◌, arith}
use Rattle.dap_client.proofs.Filling.{budget_is}
use Rattle.dap_client.proofs.Wrapped.{err_same, no_head_before, on_write_fault}
use Rattle.dap_client.proofs.part.judge_data.Goals as goal

pub returns-then-is_open-clause-read : goal.returns-then-is_open-clause-read
returns-then-is_open-clause-read c bytes put s =
    let (text, sent, after) = c.judge.ensures.stands bytes put s in
    let on = sym c.is_open.ensures ∙ c.if-is_open.true in
    (text, sent, ((refl, after, on), after.within on))

pub returns-then-is_open-clause-goes_on : goal.returns-then-is_open-clause-goes_on
returns-then-is_open-clause-goes_on c =
    let (bytes, put, s) = c.requires.stands in
    let (text, sent, after) = c.judge.ensures.stands bytes put s in
    let on = sym c.is_open.ensures ∙ c.if-is_open.true in
    omega (arith, after.taken, c.judge.ensures.taken, after.within on, budget_is)

pub closed-requires : goal.closed-requires
closed-requires c = sym c.is_open.ensures ∙ c.if-is_open.false

pub returns-clause-read : goal.returns-clause-read
returns-clause-read c bytes put s =
    let (text, sent, after) = c.judge.ensures.stands bytes put s in
    (text, sent, c.closed.ensures.stopped bytes c.args.piece.now (put ++ text) after (λ none. no_head_before c.args.reader bytes put text c.requires.still_open s none))

pub returns-clause-fault : goal.returns-clause-fault
returns-clause-fault c = λ is. c.judge.ensures.cause (on_write_fault _ c.closed.result (err_same _ _ is) c.closed.ensures.fault)
