use Rattle.std.proofs.Common.{◌∙◌, sym}
use Rattle.std.proofs.lemmas.List.Folds.{list_any_at}
use Rattle.plain_lemmas.proofs.Lists.{any-map}
use Rattle.httparse.specs.Spans.{header_bytes}
use Rattle.httparse.specs.declared.spans.HeaderSpan.{HeaderSpan}
use Rattle.dap_http.specs.Requests.{field_ends}
use Rattle.dap_http.proofs.fields.some_ends.Goals as goal

pub returns-then-field_ends : goal.returns-then-field_ends
returns-then-field_ends c =
    sym (any-map field_ends (header_bytes c.args.bytes.now) c.args.fields.now
    ∙ list_any_at (λ (f : HeaderSpan). field_ends (header_bytes c.args.bytes.now f)) c.args.fields.now c.loop-field.field-index _ c.loop-field-test.true
    (sym c.field_ends.ensures ∙ c.if-field_ends.true))
