use Rattle.std.proofs.Common.{◌∷◌, [], subst, refl, rules}
use Rattle.xdr_fields.specs.Wants.{a_value}
use Rattle.xdr_decode.proofs.Valued.{double_taken, single_taken, text_of_size, text_read, text_stop, value_none, value_token, whole_held}
use Rattle.xdr_decode.specs.inner.Taken.{IsTaken, Stops}
use Rattle.xdr_decode.proofs.values.value.Goals as goal

pub returns-in_err-token-clause-stop : goal.returns-in_err-token-clause-stop
returns-in_err-token-clause-stop c = λ path.
    let stop : Stops (a_value path c.args.base ∷ []) c.args.bytes.now c.in_err-token.field-0.0 = c.in_err-token.ensures.stop (a_value path c.args.base) refl in
    search (rules, stop)

pub returns-in_err-text-in-Size-clause-stop : goal.returns-in_err-text-in-Size-clause-stop
returns-in_err-text-in-Size-clause-stop c = λ path.
    let taken = subst (λ t. IsTaken (a_value path c.args.base) t c.args.bytes.now c.in_ok-token.rest.now) c.in-Size.is (c.in_ok-token.ensures.read (a_value path c.args.base) refl) in
    let stop : Stops (a_value path c.args.base ∷ []) c.args.bytes.now c.in_err-text-in-Size.field-0.0 =
    text_stop path c.args.base c.in-Size.size c.args.bytes.now c.in_ok-token.rest.now c.in_err-text-in-Size.field-0.0 taken c.in_err-text-in-Size.ensures.stop in
    search (rules, stop)

pub unreachable-requires : goal.unreachable-requires
unreachable-requires c =
    value_none c.in_ok-token.token (value_token [] c.args.base c.in_ok-token.token c.args.bytes.now c.in_ok-token.rest.now (c.in_ok-token.ensures.read (a_value [] c.args.base) refl))
    c.in_default.not-Whole c.in_default.not-Bits32 c.in_default.not-Bits64 c.in_default.not-Size

pub returns-in-Whole-clause-fits : goal.returns-in-Whole-clause-fits
returns-in-Whole-clause-fits c =
    (whole_held [] c.args.base c.in-Whole.whole c.args.bytes.now c.in_ok-token.rest.now (subst (λ t. IsTaken (a_value [] c.args.base) t c.args.bytes.now c.in_ok-token.rest.now) c.in-Whole.is (c.in_ok-token.ensures.read (a_value [] c.args.base) refl))).0

pub returns-in-Whole-clause-read : goal.returns-in-Whole-clause-read
returns-in-Whole-clause-read c =
    (whole_held [] c.args.base c.in-Whole.whole c.args.bytes.now c.in_ok-token.rest.now (subst (λ t. IsTaken (a_value [] c.args.base) t c.args.bytes.now c.in_ok-token.rest.now) c.in-Whole.is (c.in_ok-token.ensures.read (a_value [] c.args.base) refl))).1

pub returns-in-Bits32-clause-fits : goal.returns-in-Bits32-clause-fits
returns-in-Bits32-clause-fits c =
    (single_taken [] c.args.base c.in-Bits32.bits c.args.bytes.now c.in_ok-token.rest.now (subst (λ t. IsTaken (a_value [] c.args.base) t c.args.bytes.now c.in_ok-token.rest.now) c.in-Bits32.is (c.in_ok-token.ensures.read (a_value [] c.args.base) refl))).0

pub returns-in-Bits32-clause-read : goal.returns-in-Bits32-clause-read
returns-in-Bits32-clause-read c =
    (single_taken [] c.args.base c.in-Bits32.bits c.args.bytes.now c.in_ok-token.rest.now (subst (λ t. IsTaken (a_value [] c.args.base) t c.args.bytes.now c.in_ok-token.rest.now) c.in-Bits32.is (c.in_ok-token.ensures.read (a_value [] c.args.base) refl))).1

pub returns-in-Bits64-clause-fits : goal.returns-in-Bits64-clause-fits
returns-in-Bits64-clause-fits c =
    (double_taken [] c.args.base c.in-Bits64.bits c.args.bytes.now c.in_ok-token.rest.now (subst (λ t. IsTaken (a_value [] c.args.base) t c.args.bytes.now c.in_ok-token.rest.now) c.in-Bits64.is (c.in_ok-token.ensures.read (a_value [] c.args.base) refl))).0

pub returns-in-Bits64-clause-read : goal.returns-in-Bits64-clause-read
returns-in-Bits64-clause-read c =
    (double_taken [] c.args.base c.in-Bits64.bits c.args.bytes.now c.in_ok-token.rest.now (subst (λ t. IsTaken (a_value [] c.args.base) t c.args.bytes.now c.in_ok-token.rest.now) c.in-Bits64.is (c.in_ok-token.ensures.read (a_value [] c.args.base) refl))).1

pub returns-in_ok-text-in-Size-clause-fits : goal.returns-in_ok-text-in-Size-clause-fits
returns-in_ok-text-in-Size-clause-fits c =
    let taken = subst (λ t. IsTaken (a_value [] c.args.base) t c.args.bytes.now c.in_ok-token.rest.now) c.in-Size.is (c.in_ok-token.ensures.read (a_value [] c.args.base) refl) in
    text_of_size [] c.args.base c.in-Size.size c.in_ok-text-in-Size.text c.args.bytes.now c.in_ok-token.rest.now taken c.in_ok-text-in-Size.ensures.long

pub returns-in_ok-text-in-Size-clause-read : goal.returns-in_ok-text-in-Size-clause-read
returns-in_ok-text-in-Size-clause-read c =
    let taken = subst (λ t. IsTaken (a_value [] c.args.base) t c.args.bytes.now c.in_ok-token.rest.now) c.in-Size.is (c.in_ok-token.ensures.read (a_value [] c.args.base) refl) in
    text_read [] c.args.base c.in-Size.size c.in_ok-text-in-Size.text c.args.bytes.now c.in_ok-token.rest.now c.in_ok-text-in-Size.behind.now taken c.in_ok-text-in-Size.ensures.long c.in_ok-text-in-Size.ensures.read
