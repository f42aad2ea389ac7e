use Rattle.std.proofs.Common.{◌≡◌, false, take, map}
use Rattle.std.specs.List.{list_any}
use Rattle.httparse.specs.Spans.{header_bytes}
use Rattle.dap_http.specs.inner.ReplyJudging.{is_otherwise}
use Rattle.dap_http.proofs.fields.some_is_otherwise.Given as goal

abbrev pub invariant-loop-field : goal.invariant-loop-field
invariant-loop-field l = list_any (is_otherwise l.name l.plain) (map (header_bytes l.bytes) (take l.field-index l.fields)) ≡ false
