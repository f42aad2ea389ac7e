use Rattle.std.proofs.Common.{◌≡◌, ◌<◌, ◌+◌, ◌-◌, ◌∙◌, List, ℕ, [], None, length, length-drop, take, drop, refl, ap, arith}
use Rattle.xdr_decode.proofs.Reading.{comes_first, comes_on, gone_bad, gone_ended, gone_short}
use Rattle.xdr_decode.proofs.Texts.{part-rest}
use Rattle.xdr_decode.proofs.decoder.Decoder.look.Goals as goal
use Rattle.xdr_decode.specs.After.{place_of}

pub turns-init : goal.turns-init
turns-init c =
    record {
      within = omega arith;
      dataset = refl;
      start = refl;
      place = omega arith;
      comes = comes_first c.args.self.now c.args.self.now None None [] [] c.args.piece.now refl refl refl;
    }

pub turns-preserved : goal.turns-preserved
turns-preserved c =
    let piece = c.args.piece.now in
    let at = c.turns.at in
    let rest : List ℕ = take (length piece - at) (drop at piece) in
    let is : rest ≡ drop at piece = part-rest at piece in
    let kept = c.turns.invariant in
    let bound : place_of c.turns.self + length rest < 9223372036854775808 = omega (arith, c.requires, kept.place, kept.within, ap length is, length-drop at piece) in
    let looks = rw c.in-Went.is at c.look_on.ensures.looks in
    let falls = rw c.in-Went.is at c.look_on.ensures.falls in
    record {
      within = omega (arith, kept.within, falls.0, ap length is, length-drop at piece);
      dataset = c.look_on.ensures.dataset ∙ kept.dataset;
      start = c.look_on.ensures.start ∙ kept.start;
      place = omega (arith, kept.place, falls.2);
      comes = comes_on c.args.self.now c.turns.self c.look_on.new.self None None None [] [] [] piece rest at c.in-Went.count is kept.comes (λ bs ps s. looks bs ps s bound);
    }

pub returns-in-Ended-clause-sees : goal.returns-in-Ended-clause-sees
returns-in-Ended-clause-sees c =
    let piece = c.args.piece.now in
    let at = c.turns.at in
    let rest : List ℕ = take (length piece - at) (drop at piece) in
    let is : rest ≡ drop at piece = part-rest at piece in
    let kept = c.turns.invariant in
    let bound : place_of c.turns.self + length rest < 9223372036854775808 = omega (arith, c.requires, kept.place, kept.within, ap length is, length-drop at piece) in
    let looks = rw c.in-Ended.is at c.look_on.ensures.looks in
    gone_ended c.args.self.now c.turns.self c.look_on.new.self None None None [] [] [] piece rest at is kept.within kept.comes (λ bs ps s. looks bs ps s bound)

pub returns-in-Short-clause-sees : goal.returns-in-Short-clause-sees
returns-in-Short-clause-sees c =
    let piece = c.args.piece.now in
    let at = c.turns.at in
    let rest : List ℕ = take (length piece - at) (drop at piece) in
    let is : rest ≡ drop at piece = part-rest at piece in
    let kept = c.turns.invariant in
    let bound : place_of c.turns.self + length rest < 9223372036854775808 = omega (arith, c.requires, kept.place, kept.within, ap length is, length-drop at piece) in
    let looks = rw c.in-Short.is at c.look_on.ensures.looks in
    gone_short c.args.self.now c.turns.self c.look_on.new.self None None None [] [] [] piece rest at is kept.comes (λ bs ps s. looks bs ps s bound)

pub returns-in-Bad-clause-sees : goal.returns-in-Bad-clause-sees
returns-in-Bad-clause-sees c =
    let piece = c.args.piece.now in
    let at = c.turns.at in
    let rest : List ℕ = take (length piece - at) (drop at piece) in
    let is : rest ≡ drop at piece = part-rest at piece in
    let kept = c.turns.invariant in
    let bound : place_of c.turns.self + length rest < 9223372036854775808 = omega (arith, c.requires, kept.place, kept.within, ap length is, length-drop at piece) in
    let looks = rw c.in-Bad.is at c.look_on.ensures.looks in
    gone_bad c.args.self.now c.turns.self c.look_on.new.self None None None [] [] [] piece rest at c.in-Bad.bad is kept.comes (λ bs ps s. looks bs ps s bound)
