use Rattle.std.proofs.Common.{◌≤◌, ◌-◌, ◌∙◌, arith, sym}
use Rattle.xdr_decode.proofs.Passed.{same_stage}
use Rattle.xdr_decode.proofs.place.Place.pass.Goals as goal

pub returns-in-Elements-clause-wants : goal.returns-in-Elements-clause-wants
returns-in-Elements-clause-wants c = λ room placed has.
    let same = same_stage c.in-Elements.from has.at c.in-Elements.count has.count (sym c.in-Elements.is ∙ has.is_stage) in
    let left : c.args.more ≤ c.in-Elements.count - c.in-Elements.from = omega (arith, has.within, same.0, same.1) in
    c.pass_from.ensures.wants room placed c.in-Elements.is has.no_text left
