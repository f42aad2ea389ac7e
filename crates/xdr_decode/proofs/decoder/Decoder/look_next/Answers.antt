use Rattle.xdr_decode.proofs.Turning.{asked_want}
use Rattle.xdr_decode.proofs.decoder.Decoder.look_next.Goals as goal
use Rattle.xdr_decode.specs.After.{dataset_of}
use Rattle.xdr_decode.specs.inner.Places.{wants_left}

pub returns-in-Bytes-clause-looks : goal.returns-in-Bytes-clause-looks
returns-in-Bytes-clause-looks c = λ bytes put s small.
    let (size, is) = c.in-Bytes.ensures.bytes in c.look_string.ensures.looks bytes put size s is small

pub returns-in-Field-clause-looks : goal.returns-in-Field-clause-looks
returns-in-Field-clause-looks c = λ bytes put s small.
    let next = rw c.items.ensures at c.in-Field.ensures.next in
    let r = c.args.self.now in
    let (w, ws, first, asks) = asked_want c.in-Field.ask (wants_left (dataset_of r).members r.place) (next s.is_placed) in
    c.look_field.ensures.looks bytes put w ws s first asks small

pub returns-in-Field-clause-falls : goal.returns-in-Field-clause-falls
returns-in-Field-clause-falls c =
    let empty = rw c.items.ensures at c.in-Field.ensures.empty in c.look_field.ensures.falls empty
