use Rattle.std.proofs.Common.{◌≡◌, ◌<◌, ◌+◌, ◌-◌, ◌∙◌, List, ℕ, length, length-drop, take, drop, refl, ap, arith}
use Rattle.xdr_decode.proofs.Reading.{comes_first, comes_on, gone_bad, gone_ended, gone_failed, gone_short}
use Rattle.xdr_decode.proofs.Texts.{part-rest}
use Rattle.xdr_decode.proofs.decoder.Decoder.read.Goals as goal
use Rattle.xdr_decode.specs.After.{place_of}

pub turns-init : goal.turns-init
turns-init g c =
    record {
      within = omega arith;
      dataset = refl;
      start = refl;
      place = omega arith;
      comes = comes_first c.args.self.now c.args.self.now (g.O.Sink.written c.args.out.now) (g.O.Sink.written c.args.out.now) c.args.buffer.now.bytes.items c.args.buffer.now.bytes.items c.args.piece.now refl refl refl;
      count = refl;
      beside = refl;
    }

pub turns-preserved : goal.turns-preserved
turns-preserved g c =
    let r0 = c.args.self.now in
    let r = c.turns.self in
    let q = c.turn.new.self in
    let piece = c.args.piece.now in
    let at = c.turns.at in
    let rest : List ℕ = take (length piece - at) (drop at piece) in
    let is : rest ≡ drop at piece = part-rest at piece in
    let kept = c.turns.invariant in
    let bound : place_of r + length rest < 9223372036854775808 = omega (arith, c.requires, kept.place, kept.within, ap length is, length-drop at piece) in
    let n = c.in-Went.count in
    let turns = rw c.in-Went.is at c.in_ok-count.ensures.turns in
    let falls = rw c.in-Went.is at c.in_ok-count.ensures.falls in
    record {
      within = omega (arith, kept.within, falls.0, ap length is, length-drop at piece);
      dataset = c.turn.ensures.dataset ∙ kept.dataset;
      start = c.turn.ensures.start ∙ kept.start;
      place = omega (arith, kept.place, falls.2);
      comes = comes_on r0 r q (g.O.Sink.written c.args.out.now) (g.O.Sink.written c.turns.out) (g.O.Sink.written c.turn.new.out) c.args.buffer.now.bytes.items c.turns.buffer.bytes.items c.turn.new.buffer.bytes.items piece rest at n is kept.comes (λ bs ps s. turns bs ps s bound);
      count = c.in_ok-count.ensures.cause.kept ∙ kept.count;
      beside = c.turn.ensures.beside ∙ kept.beside;
    }

pub returns-in_err-count-clause-reads : goal.returns-in_err-count-clause-reads
returns-in_err-count-clause-reads g c =
    let r0 = c.args.self.now in
    let r = c.turns.self in
    let q = c.turn.new.self in
    let piece = c.args.piece.now in
    let at = c.turns.at in
    let rest : List ℕ = take (length piece - at) (drop at piece) in
    let is : rest ≡ drop at piece = part-rest at piece in
    let kept = c.turns.invariant in
    let bound : place_of r + length rest < 9223372036854775808 = omega (arith, c.requires, kept.place, kept.within, ap length is, length-drop at piece) in
    gone_failed r0 r q (g.O.Sink.written c.args.out.now) (g.O.Sink.written c.turns.out) (g.O.Sink.written c.turn.new.out) c.args.buffer.now.bytes.items c.turns.buffer.bytes.items c.turn.new.buffer.bytes.items piece rest at _ c.from_residual.result c.from_residual.ensures.0 is kept.comes (λ bs ps s. c.in_err-count.ensures.turns bs ps s bound)

pub returns-in-Ended-clause-reads : goal.returns-in-Ended-clause-reads
returns-in-Ended-clause-reads g c =
    let r0 = c.args.self.now in
    let r = c.turns.self in
    let q = c.turn.new.self in
    let piece = c.args.piece.now in
    let at = c.turns.at in
    let rest : List ℕ = take (length piece - at) (drop at piece) in
    let is : rest ≡ drop at piece = part-rest at piece in
    let kept = c.turns.invariant in
    let bound : place_of r + length rest < 9223372036854775808 = omega (arith, c.requires, kept.place, kept.within, ap length is, length-drop at piece) in
    let turns = rw c.in-Ended.is at c.in_ok-count.ensures.turns in
    gone_ended r0 r q (g.O.Sink.written c.args.out.now) (g.O.Sink.written c.turns.out) (g.O.Sink.written c.turn.new.out) c.args.buffer.now.bytes.items c.turns.buffer.bytes.items c.turn.new.buffer.bytes.items piece rest at is kept.within kept.comes (λ bs ps s. turns bs ps s bound)

pub returns-in-Short-clause-reads : goal.returns-in-Short-clause-reads
returns-in-Short-clause-reads g c =
    let r0 = c.args.self.now in
    let r = c.turns.self in
    let q = c.turn.new.self in
    let piece = c.args.piece.now in
    let at = c.turns.at in
    let rest : List ℕ = take (length piece - at) (drop at piece) in
    let is : rest ≡ drop at piece = part-rest at piece in
    let kept = c.turns.invariant in
    let bound : place_of r + length rest < 9223372036854775808 = omega (arith, c.requires, kept.place, kept.within, ap length is, length-drop at piece) in
    let turns = rw c.in-Short.is at c.in_ok-count.ensures.turns in
    gone_short r0 r q (g.O.Sink.written c.args.out.now) (g.O.Sink.written c.turns.out) (g.O.Sink.written c.turn.new.out) c.args.buffer.now.bytes.items c.turns.buffer.bytes.items c.turn.new.buffer.bytes.items piece rest at is kept.comes (λ bs ps s. turns bs ps s bound)

pub returns-in-Bad-clause-reads : goal.returns-in-Bad-clause-reads
returns-in-Bad-clause-reads g c =
    let r0 = c.args.self.now in
    let r = c.turns.self in
    let q = c.turn.new.self in
    let piece = c.args.piece.now in
    let at = c.turns.at in
    let rest : List ℕ = take (length piece - at) (drop at piece) in
    let is : rest ≡ drop at piece = part-rest at piece in
    let kept = c.turns.invariant in
    let bound : place_of r + length rest < 9223372036854775808 = omega (arith, c.requires, kept.place, kept.within, ap length is, length-drop at piece) in
    let turns = rw c.in-Bad.is at c.in_ok-count.ensures.turns in
    gone_bad r0 r q (g.O.Sink.written c.args.out.now) (g.O.Sink.written c.turns.out) (g.O.Sink.written c.turn.new.out) c.args.buffer.now.bytes.items c.turns.buffer.bytes.items c.turn.new.buffer.bytes.items piece rest at c.in-Bad.bad is kept.comes (λ bs ps s. turns bs ps s bound)
