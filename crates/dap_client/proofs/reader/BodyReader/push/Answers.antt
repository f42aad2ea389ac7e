use Rattle.std.proofs.Common.{arith, ◌≡◌, ◌+◌, ◌<◌, ◌++◌, length, length-append, sym, ap, subst, ◌∙◌}
use Rattle.dap_outside.specs.Causes.{Rose}
use Rattle.xdr_decode.specs.Verdict.{budget}
use Rattle.dap_client.proofs.Filling.{most_at}
use Rattle.dap_client.specs.inner.Stages.{IsStage, WhereFailed, is_open_stage}
use Rattle.dap_client.specs.declared.stage.Stage.TheVariants as stage
use Rattle.dap_client.proofs.reader.BodyReader.push.Goals as goal

pub returns-clause-stands : goal.returns-clause-stands
returns-clause-stands g c bytes put s =
    let piece = c.args.piece.now in
    let o = subst (λ x. IsStage x bytes put) (sym c.replace-stage.ensures.value) s.is_stage in
    let (text, sent, on) = c.read-stage.ensures.stage bytes put s.taken o in
    let long : length (bytes ++ piece) ≡ c.args.self.now.taken + length piece = length-append bytes piece ∙ ap (λ n. n + length piece) s.taken in (
      text,
      sent,
      record {
        taken = long;
        is_stage = c.stage_at.ensures.stage (bytes ++ piece) (put ++ text) long on;
        most = most_at (length (bytes ++ piece)) (c.args.self.now.taken + length piece) long c.requires.within;
        within = λ further. subst (λ n. n < budget) (sym long) (c.stage_at.ensures.within c.requires.within further);
      },
    )

pub returns-clause-cause : goal.returns-clause-cause
returns-clause-cause g c failed =
    let was = subst (WhereFailed (c.read-stage.result ≡ stage.Failed)) failed c.stage_at.ensures.cause in
    subst (WhereFailed (Rose (g.O.Sink.put_faults c.args.out.now) (g.O.Sink.put_faults c.read-stage.new.out))) was c.read-stage.ensures.cause

pub read-stage-requires-clause-stands : goal.read-stage-requires-clause-stands
read-stage-requires-clause-stands g c = let (bytes, put, s) = c.requires.stands in (bytes, put, s.taken, subst (λ x. IsStage x bytes put) (sym c.replace-stage.ensures.value) s.is_stage)

pub read-stage-requires-clause-still_open : goal.read-stage-requires-clause-still_open
read-stage-requires-clause-still_open g c = ap is_open_stage c.replace-stage.ensures.value ∙ c.requires.still_open

pub read-stage-requires-clause-small : goal.read-stage-requires-clause-small
read-stage-requires-clause-small g c = omega (arith, c.requires.within)

pub returns-clause-kept : goal.returns-clause-kept
returns-clause-kept g c = λ n. c.read-stage.ensures.kept (λ failed. n (c.stage_at.ensures.failed failed))
