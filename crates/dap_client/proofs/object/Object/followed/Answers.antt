use Rattle.std.proofs.Common.{◌++◌, sym, subst, arith, append_assoc}
use Rattle.dap_errors.specs.Reading.{IsBad}
use Rattle.dap_client.proofs.object.Object.followed.Goals as goal

pub returns-in-Front-clause-object : goal.returns-in-Front-clause-object
returns-in-Front-clause-object c bytes is long o = let front = rw c.in-Front.is at o in absurd (omega (arith, long, front.1))

pub returns-in-Bad-clause-object : goal.returns-in-Bad-clause-object
returns-in-Bad-clause-object c bytes is long o more = let bad = rw c.in-Bad.is at o in subst (λ l. IsBad l c.in-Bad.place) (sym (append_assoc bytes c.args.piece.now more)) (bad (c.args.piece.now ++ more))

pub returns-in-Behind-clause-object : goal.returns-in-Behind-clause-object
returns-in-Behind-clause-object c bytes is long o = let behind = rw c.in-Behind.is at o in c.trail.ensures.object bytes is behind
