use Rattle.std.proofs.Common.{◌∷◌, [], subst, rules}
use Rattle.xdr_fields.specs.Wants.{rows}
use Rattle.xdr_decode.proofs.Valued.{end_taken, mark_none, mark_shorter, mark_token, row_taken}
use Rattle.xdr_decode.specs.inner.Taken.{IsTaken, Stops}
use Rattle.xdr_decode.proofs.values.is_row.Goals as goal

pub returns-in_err-token-clause-stop : goal.returns-in_err-token-clause-stop
returns-in_err-token-clause-stop c = λ above name columns row.
    let stop : Stops (rows above name columns row ∷ []) c.args.bytes.now c.in_err-token.field-0.0 = c.in_err-token.ensures.stop (rows above name columns row) tt in
    search (rules, stop)

pub unreachable-requires : goal.unreachable-requires
unreachable-requires c =
    mark_none c.in_ok-token.token (mark_token [] [] [] 0 c.in_ok-token.token c.args.bytes.now c.in_ok-token.rest.now (c.in_ok-token.ensures.read (rows [] [] [] 0) tt)) c.in_default.not-Row c.in_default.not-End

pub returns-in-Row-clause-shorter : goal.returns-in-Row-clause-shorter
returns-in-Row-clause-shorter c = mark_shorter [] [] [] 0 c.in_ok-token.token c.args.bytes.now c.in_ok-token.rest.now (c.in_ok-token.ensures.read (rows [] [] [] 0) tt)

pub returns-in-End-clause-shorter : goal.returns-in-End-clause-shorter
returns-in-End-clause-shorter c = mark_shorter [] [] [] 0 c.in_ok-token.token c.args.bytes.now c.in_ok-token.rest.now (c.in_ok-token.ensures.read (rows [] [] [] 0) tt)

pub returns-in-Row-clause-read : goal.returns-in-Row-clause-read
returns-in-Row-clause-read c =
    row_taken [] [] [] 0 c.args.bytes.now c.in_ok-token.rest.now (subst (λ t. IsTaken (rows [] [] [] 0) t c.args.bytes.now c.in_ok-token.rest.now) c.in-Row.is (c.in_ok-token.ensures.read (rows [] [] [] 0) tt))

pub returns-in-End-clause-read : goal.returns-in-End-clause-read
returns-in-End-clause-read c =
    end_taken [] [] [] 0 c.args.bytes.now c.in_ok-token.rest.now (subst (λ t. IsTaken (rows [] [] [] 0) t c.args.bytes.now c.in_ok-token.rest.now) c.in-End.is (c.in_ok-token.ensures.read (rows [] [] [] 0) tt))
