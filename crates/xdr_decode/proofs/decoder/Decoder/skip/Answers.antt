use Rattle.std.proofs.Common.{refl, arith}
use Rattle.xdr_decode.proofs.Turning.{stays_string}
use Rattle.xdr_decode.proofs.decoder.Decoder.skip.Goals as goal
use Rattle.xdr_decode.specs.declared.decoder.Decoder.{Decoder}

pub returns-clause-stays : goal.returns-clause-stays
returns-clause-stays c = λ bytes put piece left size s is long le small.
    let r = c.args.self.now in
    let q : Decoder = record { start = r.start; dataset = r.dataset; place = c.skip.new.self; held = r.held; taken = c.saturating_add-self.result; state = r.state } in
    stays_string r q bytes put piece left size c.args.count
    (record { dataset = refl; start = refl; held = refl; taken = omega (arith, c.saturating_add-self.ensures, c.from.ensures); path = c.skip.ensures.path; stage = c.skip.ensures.stage }) c.skip.ensures.text s is long le small
