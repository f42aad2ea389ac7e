use Rattle.std.proofs.Common.{◌≡◌, [], take, map}
use Rattle.httparse.specs.Spans.{header_bytes}
use Rattle.dap_http.specs.Fields.{values_of}
use Rattle.dap_http.proofs.fields.first_value.Given as goal

abbrev pub invariant-loop-field : goal.invariant-loop-field
invariant-loop-field l = values_of l.name (map (header_bytes l.bytes) (take l.field-index l.fields)) ≡ []
