use Rattle.std.proofs.Common.{◌∷◌, [], sym, subst, rules}
use Rattle.xdr_fields.specs.Wants.{a_padding, a_text}
use Rattle.xdr_decode.proofs.Valued.{string_read, string_short, string_stop}
use Rattle.xdr_decode.specs.inner.Taken.{Stops}
use Rattle.xdr_decode.proofs.values.string.Goals as goal

pub returns-in_err-own-clause-stop : goal.returns-in_err-own-clause-stop
returns-in_err-own-clause-stop c =
    let stop : Stops (a_text c.args.size ∷ a_padding c.args.size ∷ []) c.args.bytes.now c.in_err-own.field-0.0 =
    subst (Stops (a_text c.args.size ∷ a_padding c.args.size ∷ []) c.args.bytes.now) (sym c.in_err-own.ensures.short.0) (string_short c.args.size c.args.bytes.now c.in_err-own.ensures.short.1) in
    search (rules, stop)

pub returns-in_err-behind-clause-stop : goal.returns-in_err-behind-clause-stop
returns-in_err-behind-clause-stop c =
    let stop : Stops (a_text c.args.size ∷ a_padding c.args.size ∷ []) c.args.bytes.now c.in_err-behind.field-0.0 =
    string_stop c.args.size c.in_ok-own.own.now c.args.bytes.now c.in_ok-own.rest.now c.in_err-behind.field-0.0 c.in_ok-own.ensures.parts c.in_ok-own.ensures.wide
    (c.in_err-behind.ensures.stop (a_padding c.args.size) c.fill.ensures) in
    search (rules, stop)

pub returns-clause-read : goal.returns-clause-read
returns-clause-read c =
    string_read c.args.size c.in_ok-behind.field-0-0 c.in_ok-own.own.now c.in_ok-new.field-0 c.args.bytes.now c.in_ok-own.rest.now c.in_ok-behind.behind.now c.in_ok-own.ensures.parts c.in_ok-new.ensures
    (c.in_ok-behind.ensures.read (a_padding c.args.size) c.fill.ensures)
