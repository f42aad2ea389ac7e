use Rattle.std.proofs.Common.{◌∙◌, sym}
use Rattle.std.proofs.lemmas.List.Folds.{list_any_at}
use Rattle.plain_lemmas.proofs.Lists.{any-map}
use Rattle.httparse.specs.Spans.{header_bytes}
use Rattle.httparse.specs.declared.spans.HeaderSpan.{HeaderSpan}
use Rattle.dap_http.specs.inner.ReplyJudging.{differs}
use Rattle.dap_http.proofs.fields.some_differs.Goals as goal

pub returns-then-differs : goal.returns-then-differs
returns-then-differs c =
    let p = differs c.args.name.now c.args.value.now in
    sym (any-map p (header_bytes c.args.bytes.now) c.args.fields.now
    ∙ list_any_at (λ (f : HeaderSpan). p (header_bytes c.args.bytes.now f)) c.args.fields.now c.loop-field.field-index _ c.loop-field-test.true
    (sym c.differs.ensures ∙ c.if-differs.true))
