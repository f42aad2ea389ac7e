use Rattle.xdr_decode.proofs.Turning.{asked_want}
use Rattle.xdr_decode.proofs.decoder.Decoder.turn.Goals as goal
use Rattle.xdr_decode.specs.After.{dataset_of}
use Rattle.xdr_decode.specs.inner.Places.{wants_left}

pub returns-in-Bytes-clause-turns : goal.returns-in-Bytes-clause-turns
returns-in-Bytes-clause-turns g c = λ bytes put s small.
    let (size, is) = c.in-Bytes.ensures.bytes in c.string.ensures.turns bytes put size s is small

pub returns-in-Field-clause-turns : goal.returns-in-Field-clause-turns
returns-in-Field-clause-turns g c = λ bytes put s small.
    let next = rw c.items.ensures at c.in-Field.ensures.next in
    let r = c.args.self.now in
    let (w, ws, first, asks) = asked_want c.in-Field.ask (wants_left (dataset_of r).members r.place) (next s.is_placed) in
    c.field.ensures.turns bytes put w ws s first asks small

pub returns-in-Field-clause-falls : goal.returns-in-Field-clause-falls
returns-in-Field-clause-falls g c =
    let empty = rw c.items.ensures at c.in-Field.ensures.empty in c.field.ensures.falls empty
