use Rattle.std.proofs.Common.{◌≡◌, ◌+◌, ◌∙◌, [], ◌++◌, length, length-append, take, ap, refl, sym, arith, append-nil}
use Rattle.std.proofs.lemmas.List.{length-take}
use Rattle.xdr_fields.specs.Wants.{says}
use Rattle.dap_outside.proofs.Passing.{passes_kept}
use Rattle.xdr_decode.proofs.Turning.{breaks, turn_bad, turn_held, turn_short, turns_failed, weight_falls}
use Rattle.xdr_decode.proofs.decoder.Decoder.field.Goals as goal
use Rattle.xdr_decode.specs.After.{dataset_of}
use Rattle.xdr_decode.specs.inner.Turning.{rank, weight}
use Rattle.xdr_decode.specs.declared.decoder.Decoder.{Decoder}

pub returns-in-None-clause-turns : goal.returns-in-None-clause-turns
returns-in-None-clause-turns g c = λ bytes put w ws s first asks small.
    let r = c.args.self.now in
    let q : Decoder = record { start = r.start; dataset = r.dataset; place = r.place; held = c.collect.new.held; taken = r.taken; state = r.state } in
    let none = rw c.width.ensures at c.in-None.ensures in
    record {
      gained = [];
      is_left = turn_short r q bytes put c.args.rest.now c.args.ask w ws refl refl refl refl none.part none.short s first asks small;
      puts = passes_kept _ _ _ _ (sym (append-nil c.args.buffer.now.bytes.items));
    }

pub returns-in_err-put_token-in-Ok-clause-turns : goal.returns-in_err-put_token-in-Ok-clause-turns
returns-in_err-put_token-in-Ok-clause-turns g c = λ bytes put w ws s first asks small.
    let r = c.args.self.now in
    let n = c.in-Some.count in
    let q : Decoder = record { start = r.start; dataset = r.dataset; place = r.place; held = c.collect.new.held; taken = r.taken; state = r.state } in
    let some = rw c.width.ensures at c.in-Some.ensures in
    let held = turn_held r q bytes put c.args.rest.now n c.args.ask w ws refl refl refl refl some.most some.width some.whole s first asks in
    let (f, goes, spelled, is) = rw c.as_slice.ensures.value at (c.in-Ok.ensures.good w asks) in
    turns_failed c.from_residual.result _ _ _ _ q c.args.rest.now bytes put (says w f) c.from_residual.ensures.0
    (breaks q (dataset_of r) bytes put c.args.rest.now n c.args.ask w ws f refl held.0 first asks goes spelled)
    (rw c.items.ensures at c.in_err-put_token-in-Ok.ensures.puts w ws f s.is_placed first asks goes is)

pub returns-in_ok-put_token-in-Ok-clause-turns : goal.returns-in_ok-put_token-in-Ok-clause-turns
returns-in_ok-put_token-in-Ok-clause-turns g c = λ bytes put w ws s first asks small.
    let r = c.args.self.now in
    let n = c.in-Some.count in
    let q : Decoder = record { start = r.start; dataset = r.dataset; place = r.place; held = c.collect.new.held; taken = r.taken; state = r.state } in
    let some = rw c.width.ensures at c.in-Some.ensures in
    let held = turn_held r q bytes put c.args.rest.now n c.args.ask w ws refl refl refl refl some.most some.width some.whole s first asks in
    let (f, goes, spelled, is) = rw c.as_slice.ensures.value at (c.in-Ok.ensures.good w asks) in
    let puts = rw c.items.ensures at c.in_ok-put_token-in-Ok.ensures.puts in
    record {
      gained = says w f;
      is_left = (some.most, c.step.ensures.stays (bytes ++ take n c.args.rest.now) put w ws f held.0 first asks goes spelled is held.1 (omega (arith, small, held.1, some.width, some.most)));
      puts = puts w ws f s.is_placed first asks goes is;
    }

pub returns-in_ok-put_token-in-Ok-clause-falls : goal.returns-in_ok-put_token-in-Ok-clause-falls
returns-in_ok-put_token-in-Ok-clause-falls g c = λ empty.
    let r = c.args.self.now in
    let n = c.in-Some.count in
    let some = rw c.width.ensures at c.in-Some.ensures in
    let long : length c.collect.new.held.items ≡ length r.held.items + n = ap length some.whole ∙ length-append r.held.items (take n c.args.rest.now) ∙ omega (arith, length-take n c.args.rest.now, some.most) in
    let whole : length c.collect.new.held.items ≡ Rattle.xdr_decode.specs.inner.Asked.width_of c.args.ask = long ∙ some.width in
    let falls = c.step.ensures.falls (λ none. (empty none, c.in-Ok.ensures.empty none)) whole in
    let place = c.step.ensures.place whole in
    (some.most, weight_falls (weight c.step.new.self) (rank r.place) (length r.held.items) (length c.collect.new.held.items) n falls long, omega (arith, place, long))

pub returns-in-Err-clause-turns : goal.returns-in-Err-clause-turns
returns-in-Err-clause-turns g c = λ bytes put w ws s first asks small.
    let r = c.args.self.now in
    let n = c.in-Some.count in
    let q : Decoder = record { start = r.start; dataset = r.dataset; place = r.place; held = c.collect.new.held; taken = r.taken; state = r.state } in
    let some = rw c.width.ensures at c.in-Some.ensures in
    let held = turn_held r q bytes put c.args.rest.now n c.args.ask w ws refl refl refl refl some.most some.width some.whole s first asks in
    let faulty = rw c.as_slice.ensures.value at (c.in-Err.ensures.bad w asks) in
    record {
      gained = [];
      is_left = turn_bad q bytes put c.args.rest.now n c.args.ask w ws c.in-Err.kind held.0 first asks held.1 faulty;
      puts = passes_kept _ _ _ _ (sym (append-nil c.args.buffer.now.bytes.items));
    }
