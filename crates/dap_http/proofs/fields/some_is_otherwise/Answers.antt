use Rattle.std.proofs.Common.{◌∙◌, sym}
use Rattle.std.proofs.lemmas.List.Folds.{list_any_at}
use Rattle.plain_lemmas.proofs.Lists.{any-map}
use Rattle.httparse.specs.Spans.{header_bytes}
use Rattle.httparse.specs.declared.spans.HeaderSpan.{HeaderSpan}
use Rattle.dap_http.specs.inner.ReplyJudging.{is_otherwise}
use Rattle.dap_http.proofs.fields.some_is_otherwise.Goals as goal

pub returns-then-is_otherwise : goal.returns-then-is_otherwise
returns-then-is_otherwise c =
    let p = is_otherwise c.args.name.now c.args.plain.now in
    sym (any-map p (header_bytes c.args.bytes.now) c.args.fields.now
    ∙ list_any_at (λ (f : HeaderSpan). p (header_bytes c.args.bytes.now f)) c.args.fields.now c.loop-field.field-index _ c.loop-field-test.true
    (sym c.is_otherwise.ensures ∙ c.if-is_otherwise.true))
