use Rattle.std.proofs.Common.{ap, length, refl}
use Rattle.xdr_decode.proofs.Passed.{fewer_elements, run_falls, stays_passed}
use Rattle.xdr_decode.proofs.decoder.Decoder.pass_run.Goals as goal
use Rattle.xdr_decode.specs.declared.decoder.Decoder.{Decoder}

pub returns-clause-passes : goal.returns-clause-passes
returns-clause-passes c = λ bytes put s small e.
    let r = c.args.self.now in
    let q : Decoder = record { start = r.start; dataset = r.dataset; place = c.pass.new.self; held = r.held; taken = c.saturating_add-self.result; state = r.state } in
    let fewer = fewer_elements r.place c.good_numbers-count.result c.args.most c.good_numbers-count.ensures.within c.requires.elements in
    let on = rw c.items.ensures at c.pass.ensures in
    stays_passed r q bytes put c.args.rest.now c.args.base c.good_numbers-count.result c.args.most c.element_width.result refl refl refl c.requires.none_held c.requires.elements.no_text c.pass.ensures.text
    c.element_width.ensures c.saturating_add-self.ensures c.good_numbers-count.ensures.within c.good_numbers-count.ensures.begins (λ room placed. on.wants room placed fewer) (λ m. on.marks m fewer) small s e

pub returns-clause-falls : goal.returns-clause-falls
returns-clause-falls c =
    let r = c.args.self.now in
    let on = rw c.items.ensures at c.pass.ensures in
    let fewer = fewer_elements r.place c.good_numbers-count.result c.args.most c.good_numbers-count.ensures.within c.requires.elements in
    run_falls r.place c.pass.new.self c.args.most c.good_numbers-count.result c.element_width.result (length r.held.items) c.args.base c.requires.elements c.element_width.ensures c.if-count-eq0.false (on.rank fewer) c.pass.ensures.text (ap length c.requires.none_held)
