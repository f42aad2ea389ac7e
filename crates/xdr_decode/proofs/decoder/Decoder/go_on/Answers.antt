use Rattle.std.proofs.Common.{◌<◌, ◌∙◌, arith}
use Rattle.std.proofs.lemmas.List.Elements.{All-append}
use Rattle.xdr_decode.proofs.Pushing.{either_way, front_bytes, has_failed, pushed_broken, where_more}
use Rattle.xdr_decode.proofs.Turning.{reads_stays}
use Rattle.xdr_decode.proofs.decoder.Decoder.go_on.Goals as goal

pub returns-in-Ok-clause-pushes : goal.returns-in-Ok-clause-pushes
returns-in-Ok-clause-pushes g c = λ bytes put reads all.
    let piece = c.args.piece.now in
    let more = All-append (λ b. b < 256) bytes piece all (front_bytes piece (λ i lt. (c.type_inv.piece i).fits)) in
    c.end.ensures.pushes _ _ piece bytes put c.new-buffer.ensures more (omega (arith, c.requires, c.in-Ok.ensures.place)) (c.in-Ok.ensures.reads bytes put (reads_stays c.args.self.now bytes put reads))

pub returns-in-Ok-clause-behind : goal.returns-in-Ok-clause-behind
returns-in-Ok-clause-behind g c = where_more c.end.result _ _ (λ is. is ∙ omega (arith, c.behind-behind.ensures, c.requires)) c.end.ensures.behind

pub returns-in-Ok-clause-place : goal.returns-in-Ok-clause-place
returns-in-Ok-clause-place g c =
    either_way c.end.result _ _ _ (λ is. omega (arith, is, c.behind-behind.ensures)) (λ is. omega (arith, is, c.in-Ok.ensures.place)) c.end.ensures.behind c.end.ensures.place

pub returns-in-Err-clause-pushes : goal.returns-in-Err-clause-pushes
returns-in-Err-clause-pushes g c = λ bytes put reads all.
    let piece = c.args.piece.now in
    let more = All-append (λ b. b < 256) bytes piece all (front_bytes piece (λ i lt. (c.type_inv.piece i).fits)) in
    pushed_broken c.read.new.self c.fail.new.self _ _ _ _ piece bytes put _ c.fail.ensures.dataset c.fail.ensures.failed c.new-buffer.ensures more (c.in-Err.ensures.reads bytes put (reads_stays c.args.self.now bytes put reads))

pub returns-in-Err-clause-fails : goal.returns-in-Err-clause-fails
returns-in-Err-clause-fails g c = has_failed c.fail.new.self c.fail.ensures.failed
