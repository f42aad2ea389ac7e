use Rattle.std.proofs.Common.{None, ◌∙◌, sym, ap, inl, inr}
use Rattle.dap_http.specs.Texts.{description_of, head_text}
use Rattle.dap_http.specs.declared.kind.Kind.TheVariants.{Dods}
use Rattle.dap_server.specs.inner.Serving.{request_in}
use Rattle.dap_server.proofs.Replying.{head-reply, text-put}
use Rattle.dap_server.proofs.saved_answer.put_saved.Goals as goal

pub returns-then-is_head-clause-puts : goal.returns-then-is_head-clause-puts
returns-then-is_head-clause-puts g c = λ text is.
    let q = request_in c.args.head.now c.args.ends in
    inl (text-put _ _ 200 c.args.ends _ _ c.put_reply.result
    (head-reply q text c.bytes.result.now (sym (c.is_head.ensures c.args.ends) ∙ c.if-is_head.true)
    (c.bytes.ensures ∙ c.in-Ok.ensures ∙ ap (λ b. head_text 200 (description_of Dods) None b c.args.ends) c.is_chunked.ensures))
    c.put_reply.ensures.puts)

pub put_with_values-requires-clause-get : goal.put_with_values-requires-clause-get
put_with_values-requires-clause-get g c = sym (c.is_head.ensures c.args.ends) ∙ c.if-is_head.false

pub returns-in-Err-clause-puts : goal.returns-in-Err-clause-puts
returns-in-Err-clause-puts g c = λ text is. inr c.put_memory.ensures.puts
