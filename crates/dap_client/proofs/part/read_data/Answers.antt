use Rattle.std.proofs.Common.{◌++◌, Err, refl, sym, ap, ◌∙◌, arith}
use Rattle.dap_client.proofs.Filling.{budget_is}
use Rattle.dap_client.proofs.Told.{open_not_failed}
use Rattle.dap_client.proofs.Wrapped.{err_same, no_head_before, on_write_fault}
use Rattle.dap_client.proofs.part.read_data.Goals as goal

pub returns-then-is_open-clause-read : goal.returns-then-is_open-clause-read
returns-then-is_open-clause-read g c bytes put s =
    let (text, sent, after) = c.push.ensures.stands bytes put s in
    let on = sym c.is_open.ensures ∙ c.if-is_open.true in
    (text, sent, ((refl, after, on), after.within on))

pub returns-then-is_open-clause-goes_on : goal.returns-then-is_open-clause-goes_on
returns-then-is_open-clause-goes_on g c =
    let (bytes, put, s) = c.requires.stands in
    let (text, sent, after) = c.push.ensures.stands bytes put s in
    let on = sym c.is_open.ensures ∙ c.if-is_open.true in
    omega (arith, after.taken, c.push.ensures.taken, after.within on, budget_is)

pub closed-requires : goal.closed-requires
closed-requires g c = sym c.is_open.ensures ∙ c.if-is_open.false

pub returns-clause-read : goal.returns-clause-read
returns-clause-read g c bytes put s =
    let (text, sent, after) = c.push.ensures.stands bytes put s in
    (text, sent, c.closed.ensures.stopped bytes c.args.piece.now (put ++ text) after (λ none. no_head_before c.args.reader bytes put text c.requires.still_open s none))

pub returns-clause-fault : goal.returns-clause-fault
returns-clause-fault g c = λ is. c.push.ensures.cause (on_write_fault _ c.closed.result (err_same _ _ is) c.closed.ensures.fault)

pub returns-then-is_open-clause-kept : goal.returns-then-is_open-clause-kept
returns-then-is_open-clause-kept g c = λ n. c.push.ensures.kept (λ failed. open_not_failed c.push.new.self (sym c.is_open.ensures ∙ c.if-is_open.true) failed)

pub returns-clause-kept : goal.returns-clause-kept
returns-clause-kept g c = λ n. c.push.ensures.kept (λ failed. n (ap Err (c.closed.ensures.failed failed)))
