use Rattle.std.proofs.Common.{refl, sym, subst}
use Rattle.xdr_decode.proofs.Pushing.{has_failed, in_state, pushed_all, pushed_some, unless_any, where_never}
use Rattle.xdr_decode.proofs.decoder.Decoder.end.Goals as goal
use Rattle.xdr_decode.specs.inner.Pushing.{IsPushed}

pub returns-in-Ok-clause-pushes : goal.returns-in-Ok-clause-pushes
returns-in-Ok-clause-pushes g c = λ before held piece bytes put none all small gone.
    subst (λ s. IsPushed before (g.O.Sink.written c.flush.new.out) (in_state c.args.self.now s) piece bytes put c.args.pushed) (sym c.state_behind-self.ensures)
    (pushed_all c.args.self.now before (g.O.Sink.written c.args.out.now) (g.O.Sink.written c.flush.new.out) held c.args.buffer.now.bytes.items piece bytes put c.args.pushed none c.requires small gone c.in-Ok.ensures.ok)

pub returns-in-Ok-clause-behind : goal.returns-in-Ok-clause-behind
returns-in-Ok-clause-behind g c = where_never c.args.pushed _ c.requires

pub returns-in-Ok-clause-kept : goal.returns-in-Ok-clause-kept
returns-in-Ok-clause-kept g c = unless_any c.args.pushed _ c.in-Ok.ensures.cause.kept

pub returns-in-Ok-clause-place : goal.returns-in-Ok-clause-place
returns-in-Ok-clause-place g c = unless_any c.args.pushed _ refl

pub returns-in-Err-clause-pushes : goal.returns-in-Err-clause-pushes
returns-in-Err-clause-pushes g c = λ before held piece bytes put none all small gone.
    pushed_some c.args.self.now c.fail.new.self before (g.O.Sink.written c.args.out.now) (g.O.Sink.written c.flush.new.out) held c.args.buffer.now.bytes.items piece bytes put c.args.pushed c.fail.ensures.dataset c.fail.ensures.failed none c.requires all gone c.in-Err.ensures.err

pub returns-in-Err-clause-fails : goal.returns-in-Err-clause-fails
returns-in-Err-clause-fails g c = has_failed c.fail.new.self c.fail.ensures.failed
