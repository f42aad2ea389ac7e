use Rattle.std.proofs.Common.{◌∙◌, sym, ap, cond, codes, map, inr}
use Rattle.httparse.specs.Spans.{header_bytes}
use Rattle.dap_http.specs.Fields.{values_of}
use Rattle.dap_http.specs.Replies.{length_of}
use Rattle.dap_http.specs.declared.coding.Coding.TheVariants.{Chunked}
use Rattle.dap_http.proofs.FieldTests.{by-cases, coding-is}
use Rattle.dap_http.proofs.reply_judge.coding_of.Goals as goal

pub returns-then-is_coded : goal.returns-then-is_coded
returns-then-is_coded c =
    let fields = map (header_bytes c.args.bytes.now) c.args.fields.now in
    sym (coding-is fields c.is_coded.result c.is_coded.ensures ∙ ap (by-cases fields) c.if-is_coded.true)

pub returns-then-is_there : goal.returns-then-is_there
returns-then-is_there c =
    let fields = map (header_bytes c.args.bytes.now) c.args.fields.now in
    sym (coding-is fields c.is_coded.result c.is_coded.ensures ∙ ap (by-cases fields) c.if-is_coded.false
    ∙ ap (λ b. cond b (inr Chunked) (length_of (values_of (codes "Content-Length") fields))) (sym c.is_there.ensures ∙ c.if-is_there.true))

pub returns : goal.returns
returns c =
    let fields = map (header_bytes c.args.bytes.now) c.args.fields.now in
    c.length_of.ensures ∙ sym (coding-is fields c.is_coded.result c.is_coded.ensures ∙ ap (by-cases fields) c.if-is_coded.false
    ∙ ap (λ b. cond b (inr Chunked) (length_of (values_of (codes "Content-Length") fields))) (sym c.is_there.ensures ∙ c.if-is_there.false))
