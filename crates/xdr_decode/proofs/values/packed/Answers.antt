use Rattle.std.proofs.Common.{◌∷◌, [], subst, rules}
use Rattle.xdr_fields.specs.Wants.{a_byte}
use Rattle.xdr_decode.proofs.Valued.{byte_held, byte_token}
use Rattle.xdr_decode.specs.inner.Taken.{IsTaken, Stops}
use Rattle.xdr_decode.proofs.values.packed.Goals as goal

pub returns-in_err-token-clause-stop : goal.returns-in_err-token-clause-stop
returns-in_err-token-clause-stop c = λ path.
    let stop : Stops (a_byte path ∷ []) c.args.bytes.now c.in_err-token.field-0.0 = c.in_err-token.ensures.stop (a_byte path) tt in
    search (rules, stop)

pub returns-clause-fits : goal.returns-clause-fits
returns-clause-fits c =
    (byte_held [] c.in-Whole.whole c.args.bytes.now c.in_ok-token.rest.now (subst (λ t. IsTaken (a_byte []) t c.args.bytes.now c.in_ok-token.rest.now) c.in-Whole.is (c.in_ok-token.ensures.read (a_byte []) tt))).0

pub returns-clause-read : goal.returns-clause-read
returns-clause-read c =
    (byte_held [] c.in-Whole.whole c.args.bytes.now c.in_ok-token.rest.now (subst (λ t. IsTaken (a_byte []) t c.args.bytes.now c.in_ok-token.rest.now) c.in-Whole.is (c.in_ok-token.ensures.read (a_byte []) tt))).1

pub unreachable-requires : goal.unreachable-requires
unreachable-requires c =
    let (z, is) = byte_token [] c.in_ok-token.token c.args.bytes.now c.in_ok-token.rest.now (c.in_ok-token.ensures.read (a_byte []) tt) in
    c.in_default.not-Whole z is
