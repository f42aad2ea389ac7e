use Rattle.xdr_decode.proofs.decoder.Decoder.pass.Goals as goal

pub returns-in-Some-clause-passes : goal.returns-in-Some-clause-passes
returns-in-Some-clause-passes c = λ bytes put s small.
    let numbers = rw c.items.ensures at c.in-Some.ensures.numbers in c.pass_run.ensures.passes bytes put s small (numbers s.is_placed)
