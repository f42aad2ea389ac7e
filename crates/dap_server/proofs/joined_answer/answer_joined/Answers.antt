use Rattle.std.proofs.Common.{None, ◌∙◌, refl, sym, ap, arith}
use Rattle.dap_http.specs.Targets.{asked_of}
use Rattle.dap_http.specs.Texts.{description_of, head_text}
use Rattle.dap_http.specs.declared.kind.Kind.TheVariants.{Dods}
use Rattle.dap_server.specs.inner.Serving.{Costs, request_in}
use Rattle.dap_server.proofs.Answered.{head-answer}
use Rattle.dap_server.proofs.Replying.{memory-answer}
use Rattle.dap_server.proofs.joined_answer.answer_joined.Goals as goal

pub returns-then-is_head-clause-answers : goal.returns-then-is_head-clause-answers
returns-then-is_head-clause-answers g c =
    head-answer (g.S.Shelf.files c.args.shelf.now) (request_in c.args.head.now c.args.ends) (asked_of c.args.target.now) c.bytes.result.now _ _ c.put_reply.result
    (sym (c.is_head.ensures c.args.ends) ∙ c.if-is_head.true)
    (c.bytes.ensures ∙ c.in-Ok.ensures ∙ ap (λ b. head_text 200 (description_of Dods) None b c.args.ends) c.is_chunked.ensures)
    c.requires.served c.requires.target c.put_reply.ensures.puts c.requires.joined.accepted refl (omega arith)

pub put_with_values-requires-clause-get : goal.put_with_values-requires-clause-get
put_with_values-requires-clause-get g c lifetimes outlive = sym (c.is_head.ensures c.args.ends) ∙ c.if-is_head.false

pub returns-in-Err-clause-answers : goal.returns-in-Err-clause-answers
returns-in-Err-clause-answers g c =
    memory-answer (Costs (g.S.Shelf.files c.args.shelf.now) (asked_of c.args.target.now) (request_in c.args.head.now c.args.ends)) (g.S.Shelf.files c.args.shelf.now) (request_in c.args.head.now c.args.ends) _ _ c.put_memory.result
    c.put_memory.ensures.puts refl (0, refl, omega arith)
