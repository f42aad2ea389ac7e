use Rattle.std.proofs.Common.{arith, ◌≡◌, ◌+◌, ◌<◌, ◌++◌, length, length-append, sym, ap, subst, ◌∙◌}
use Rattle.xdr_decode.specs.Verdict.{budget}
use Rattle.dap_client.proofs.Filling.{most_at}
use Rattle.dap_client.specs.inner.Stages.{IsStage, WhereFailed, is_open_stage}
use Rattle.dap_client.specs.declared.stage.Stage.TheVariants as stage
use Rattle.dap_client.proofs.reader.BodyReader.judge.Goals as goal

pub returns-clause-stands : goal.returns-clause-stands
returns-clause-stands c bytes put s =
    let piece = c.args.piece.now in
    let o = subst (λ x. IsStage x bytes put) (sym c.replace-stage.ensures.value) s.is_stage in
    let (text, sent, on) = c.judge-stage.ensures.stage bytes put s.taken o in
    let long : length (bytes ++ piece) ≡ c.args.self.now.taken + length piece = length-append bytes piece ∙ ap (λ n. n + length piece) s.taken in (
      text,
      sent,
      record {
        taken = long;
        is_stage = c.stage_at.ensures.stage (bytes ++ piece) (put ++ text) long on;
        most = most_at (length (bytes ++ piece)) (c.args.self.now.taken + length piece) long c.requires.within;
        within = λ further. subst (λ n. n < budget) (sym long) (c.stage_at.ensures.within c.requires.within further);
      },
    )

pub returns-clause-cause : goal.returns-clause-cause
returns-clause-cause c failed =
    let was = subst (WhereFailed (c.judge-stage.result ≡ stage.Failed)) failed c.stage_at.ensures.cause in subst (WhereFailed ⊥) was c.judge-stage.ensures.cause

pub judge-stage-requires-clause-stands : goal.judge-stage-requires-clause-stands
judge-stage-requires-clause-stands c = let (bytes, put, s) = c.requires.stands in (bytes, put, s.taken, subst (λ x. IsStage x bytes put) (sym c.replace-stage.ensures.value) s.is_stage)

pub judge-stage-requires-clause-still_open : goal.judge-stage-requires-clause-still_open
judge-stage-requires-clause-still_open c = ap is_open_stage c.replace-stage.ensures.value ∙ c.requires.still_open

pub judge-stage-requires-clause-small : goal.judge-stage-requires-clause-small
judge-stage-requires-clause-small c = omega (arith, c.requires.within)
