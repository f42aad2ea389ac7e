use Rattle.std.proofs.Common.{◌∷◌, [], length, ◌∙◌, sym, subst, arith, rules}
use Rattle.xdr_decode.proofs.Stopping.{stops_bad, stops_short}
use Rattle.xdr_decode.proofs.Turning.{asks_room}
use Rattle.xdr_decode.specs.declared.values.Stop.TheVariants.{Wrong}
use Rattle.xdr_decode.specs.inner.Taken.{Stops}
use Rattle.xdr_decode.proofs.values.field.Goals as goal

pub returns-in_err-own-clause-stop : goal.returns-in_err-own-clause-stop
returns-in_err-own-clause-stop c = λ w asks.
    let stop : Stops (w ∷ []) c.args.bytes.now c.in_err-own.field-0.0 =
    subst (Stops (w ∷ []) c.args.bytes.now) (sym c.in_err-own.ensures.short.0) (stops_short w [] c.args.bytes.now (omega (arith, c.in_err-own.ensures.short.1, c.width.ensures, asks_room c.args.ask w asks))) in
    search (rules, stop)

pub returns-in-Err-clause-stop : goal.returns-in-Err-clause-stop
returns-in-Err-clause-stop c = λ w asks.
    subst (λ l. Stops (w ∷ []) l (Wrong c.in-Err.kind (length l))) (sym c.in_ok-own.ensures.parts)
    (stops_bad w [] c.in_ok-own.own.now c.in_ok-own.rest.now c.in-Err.kind (c.in_ok-own.ensures.wide ∙ c.width.ensures ∙ asks_room c.args.ask w asks) (c.in-Err.ensures.bad w asks))
