use Rattle.std.proofs.Common.{refl}
use Rattle.xdr_decode.proofs.Turning.{stays_on}
use Rattle.xdr_decode.proofs.decoder.Decoder.step.Goals as goal
use Rattle.xdr_decode.specs.declared.decoder.Decoder.{Decoder}

pub returns-clause-stays : goal.returns-clause-stays
returns-clause-stays c = λ bytes put w ws f s first asks goes good is whole small.
    let r = c.args.self.now in
    let q : Decoder = record { start = r.start; dataset = r.dataset; place = c.step.new.self; held = c.clear.new.self; taken = c.saturating_add-self.result; state = r.state } in
    let on = rw c.items.ensures at c.step.ensures in
    stays_on r q bytes put c.args.ask w ws f c.args.token refl refl c.clear.ensures (rw c.width.ensures at c.saturating_add-self.ensures)
    (on.wants w ws f) (on.placed w ws f) on.marks on.fresh s first asks goes good is whole small
