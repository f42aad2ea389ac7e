use Rattle.std.proofs.Common.{subst, sym, inr, refl}
use Rattle.dap_http.proofs.Feeds.{exceeds-feeds, may-become}
use Rattle.dap_http.proofs.HeadReading.{never-fits, no-head, none-now, told-head}
use Rattle.httparse.specs.Spans.{IsRequestOf, IsRequestWithin}
use Rattle.httparse.specs.Grammar.{IsToken}
use Rattle.dap_http.proofs.head_judge.judge.Goals as goal

pub returns-in-Ok : goal.returns-in-Ok
returns-in-Ok c =
    let within : IsRequestWithin c.args.bytes.now c.parse_request.new.headers c.in-Ok-Complete.spans = rw (c.in-Ok-Complete.is, c.in-Ok-Complete.field-0-is) at c.parse_request.ensures.within in
    let whole : IsRequestOf c.args.bytes.now c.parse_request.new.headers c.in-Ok-Complete.spans = rw (c.in-Ok-Complete.is, c.in-Ok-Complete.field-0-is) at c.parse_request.ensures.complete in
    told-head c.args.bytes.now c.parse_request.new.headers c.in-Ok-Complete.spans c.in-Ok.head c.parse_request.auto.headers within whole
    c.in-Ok.ensures.method c.in-Ok.ensures.target c.in-Ok.ensures.minor c.in-Ok.ensures.ends

pub returns-in-Ok-Partial : goal.returns-in-Ok-Partial
returns-in-Ok-Partial c = (
  no-head c.args.bytes.now (rw (c.in-Ok-Partial.is, c.in-Ok-Partial.field-0-is) at c.parse_request.ensures.partial),
  may-become 64 c.args.bytes.now refl (rw (c.in-Ok-Partial.is, c.in-Ok-Partial.field-0-is) at c.parse_request.ensures.unfinished),
)

pub returns-in-Err-TooManyHeaders : goal.returns-in-Err-TooManyHeaders
returns-in-Err-TooManyHeaders c =
    let never = never-fits c.args.bytes.now (rw c.in-Err-TooManyHeaders.is at c.parse_request.ensures.no_room) in
    (never, inr (exceeds-feeds 64 c.args.bytes.now (c.parse_request.ensures.too_many (rw c.in-Err-TooManyHeaders.field-0-is at c.in-Err-TooManyHeaders.is)), none-now c.args.bytes.now never))

pub told-requires-clause-token : goal.told-requires-clause-token
told-requires-clause-token c =
    let whole : IsRequestOf c.args.bytes.now c.parse_request.new.headers c.in-Ok-Complete.spans = rw (c.in-Ok-Complete.is, c.in-Ok-Complete.field-0-is) at c.parse_request.ensures.complete in
    let (tree, at) = whole in
    subst IsToken (sym at.method) at.reads.0.method
