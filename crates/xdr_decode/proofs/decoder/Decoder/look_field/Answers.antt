use Rattle.std.proofs.Common.{◌≡◌, ◌+◌, ◌∙◌, [], ◌++◌, length, length-append, take, ap, refl, arith}
use Rattle.std.proofs.lemmas.List.{length-take}
use Rattle.xdr_fields.specs.Wants.{says}
use Rattle.xdr_decode.proofs.Looking.{quiet}
use Rattle.xdr_decode.proofs.Turning.{turn_bad, turn_held, turn_short, weight_falls}
use Rattle.xdr_decode.proofs.decoder.Decoder.look_field.Goals as goal
use Rattle.xdr_decode.specs.inner.Asked.{width_of}
use Rattle.xdr_decode.specs.inner.Turning.{rank, weight}
use Rattle.xdr_decode.specs.declared.decoder.Decoder.{Decoder}

pub returns-in-None-clause-looks : goal.returns-in-None-clause-looks
returns-in-None-clause-looks c = λ bytes put w ws s first asks small.
    let r = c.args.self.now in
    let q : Decoder = record { start = r.start; dataset = r.dataset; place = r.place; held = c.collect.new.held; taken = r.taken; state = r.state } in
    let none = rw c.width.ensures at c.in-None.ensures in
    record {
      gained = [];
      is_left = turn_short r q bytes put c.args.rest.now c.args.ask w ws refl refl refl refl none.part none.short s first asks small;
      puts = quiet [];
    }

pub returns-in-Ok-clause-looks : goal.returns-in-Ok-clause-looks
returns-in-Ok-clause-looks c = λ bytes put w ws s first asks small.
    let r = c.args.self.now in
    let n = c.in-Some.count in
    let q : Decoder = record { start = r.start; dataset = r.dataset; place = r.place; held = c.collect.new.held; taken = r.taken; state = r.state } in
    let some = rw c.width.ensures at c.in-Some.ensures in
    let held = turn_held r q bytes put c.args.rest.now n c.args.ask w ws refl refl refl refl some.most some.width some.whole s first asks in
    let (f, goes, spelled, is) = rw c.as_slice.ensures.value at (c.in-Ok.ensures.good w asks) in
    record {
      gained = says w f;
      is_left = (some.most, c.step.ensures.stays (bytes ++ take n c.args.rest.now) put w ws f held.0 first asks goes spelled is held.1 (omega (arith, small, held.1, some.width, some.most)));
      puts = quiet (says w f);
    }

pub returns-in-Ok-clause-falls : goal.returns-in-Ok-clause-falls
returns-in-Ok-clause-falls c = λ empty.
    let r = c.args.self.now in
    let n = c.in-Some.count in
    let some = rw c.width.ensures at c.in-Some.ensures in
    let long : length c.collect.new.held.items ≡ length r.held.items + n = ap length some.whole ∙ length-append r.held.items (take n c.args.rest.now) ∙ omega (arith, length-take n c.args.rest.now, some.most) in
    let whole : length c.collect.new.held.items ≡ width_of c.args.ask = long ∙ some.width in
    let falls = c.step.ensures.falls (λ none. (empty none, c.in-Ok.ensures.empty none)) whole in
    let place = c.step.ensures.place whole in
    (some.most, weight_falls (weight c.step.new.self) (rank r.place) (length r.held.items) (length c.collect.new.held.items) n falls long, omega (arith, place, long))

pub returns-in-Err-clause-looks : goal.returns-in-Err-clause-looks
returns-in-Err-clause-looks c = λ bytes put w ws s first asks small.
    let r = c.args.self.now in
    let n = c.in-Some.count in
    let q : Decoder = record { start = r.start; dataset = r.dataset; place = r.place; held = c.collect.new.held; taken = r.taken; state = r.state } in
    let some = rw c.width.ensures at c.in-Some.ensures in
    let held = turn_held r q bytes put c.args.rest.now n c.args.ask w ws refl refl refl refl some.most some.width some.whole s first asks in
    let faulty = rw c.as_slice.ensures.value at (c.in-Err.ensures.bad w asks) in
    record {
      gained = [];
      is_left = turn_bad q bytes put c.args.rest.now n c.args.ask w ws c.in-Err.kind held.0 first asks held.1 faulty;
      puts = quiet [];
    }
