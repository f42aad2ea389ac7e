use Rattle.std.proofs.Common.{◌∙◌, sym, ap, inr, refl, not}
use Rattle.httparse.specs.Spans.{IsResponseOf, IsResponseWithin}
use Rattle.dap_http.proofs.ReplyFeeds.{exceeds-feeds, may-become}
use Rattle.dap_http.proofs.ReplyReading.{interim-is, no-head, no-room, told-reply}
use Rattle.dap_http.proofs.reply_judge.judge_reply.Goals as goal

pub returns-then-is_interim : goal.returns-then-is_interim
returns-then-is_interim c =
    let within : IsResponseWithin c.args.bytes.now c.parse_response.new.headers c.in-Ok-Complete.head = rw (c.in-Ok-Complete.is, c.in-Ok-Complete.field-0-is) at c.parse_response.ensures.within in
    let whole : IsResponseOf c.args.bytes.now c.parse_response.new.headers c.in-Ok-Complete.head = rw (c.in-Ok-Complete.is, c.in-Ok-Complete.field-0-is) at c.parse_response.ensures.complete in
    let (head, stands, code, coding) = told-reply c.args.bytes.now c.parse_response.new.headers c.in-Ok-Complete.head c.parse_response.auto.headers within whole in
    (head, stands, interim-is head c.in-Ok-Complete.head.code c.is_interim.result code c.is_interim.ensures ∙ c.if-is_interim.true)

pub returns-else-is_interim : goal.returns-else-is_interim
returns-else-is_interim c =
    let within : IsResponseWithin c.args.bytes.now c.parse_response.new.headers c.in-Ok-Complete.head = rw (c.in-Ok-Complete.is, c.in-Ok-Complete.field-0-is) at c.parse_response.ensures.within in
    let whole : IsResponseOf c.args.bytes.now c.parse_response.new.headers c.in-Ok-Complete.head = rw (c.in-Ok-Complete.is, c.in-Ok-Complete.field-0-is) at c.parse_response.ensures.complete in
    let (head, stands, code, coding) = told-reply c.args.bytes.now c.parse_response.new.headers c.in-Ok-Complete.head c.parse_response.auto.headers within whole in
    (head, stands, ap not (interim-is head c.in-Ok-Complete.head.code c.is_interim.result code c.is_interim.ensures ∙ c.if-is_interim.false), coding ∙ sym c.coding_of.ensures)

pub returns-in-Ok-Partial : goal.returns-in-Ok-Partial
returns-in-Ok-Partial c = (
  no-head c.args.bytes.now (rw (c.in-Ok-Partial.is, c.in-Ok-Partial.field-0-is) at c.parse_response.ensures.partial),
  may-become 128 c.args.bytes.now refl (rw (c.in-Ok-Partial.is, c.in-Ok-Partial.field-0-is) at c.parse_response.ensures.unfinished),
)

pub returns-in-Err-TooManyHeaders : goal.returns-in-Err-TooManyHeaders
returns-in-Err-TooManyHeaders c = (
  no-room c.args.bytes.now (rw c.in-Err-TooManyHeaders.is at c.parse_response.ensures.no_room),
  inr (exceeds-feeds 128 c.args.bytes.now (c.parse_response.ensures.too_many (rw c.in-Err-TooManyHeaders.field-0-is at c.in-Err-TooManyHeaders.is))),
)
