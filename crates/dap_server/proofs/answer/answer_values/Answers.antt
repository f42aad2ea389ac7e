use Rattle.std.proofs.Common.{◌∙◌, subst, refl, arith}
use Rattle.dap_http.specs.Targets.{asked_of}
use Rattle.dap_http.specs.Frames.{framed}
use Rattle.dap_http.specs.Framings.{front_of}
use Rattle.xdr_encode.specs.Bodies.{HasNoFile, text_in}
use Rattle.dap_server.specs.inner.Serving.{Costs, PutsValues, request_in}
use Rattle.dap_server.proofs.Answered.{costs-less}
use Rattle.dap_server.proofs.Replying.{memory-answer, values-answer}
use Rattle.dap_server.proofs.answer.answer_values.Goals as goal

pub returns-in-Ok-clause-answers : goal.returns-in-Ok-clause-answers
returns-in-Ok-clause-answers g c =
    let q = request_in c.args.head.now c.args.ends in
    values-answer _ q (asked_of c.args.target.now) (front_of c.in-Ok.framer) (g.S.Shelf.content c.args.shelf.now c.args.file.now) (HasNoFile c.args.body.now) (text_in c.args.body.now) _ _ c.put_values.result
    c.requires.get (c.in-Ok.ensures.front ∙ c.requires.front) c.requires.served c.requires.target
    (λ bytes is. subst (λ b. PutsValues (front_of c.in-Ok.framer) (framed b (text_in c.args.body.now bytes)) c.args.ends (g.O.Sink.written c.args.out.now) (g.O.Sink.written c.put_values.new.out) c.put_values.result) (c.in-Ok.ensures.chunked ∙ c.is_chunked-chunked.ensures) (c.put_values.ensures.puts bytes is))
    c.put_values.ensures.last c.put_values.ensures.grows c.requires.body c.requires.accepted c.requires.alone c.requires.tells c.put_values.ensures.shelf_fault
    (costs-less (g.S.Shelf.files c.args.shelf.now) (asked_of c.args.target.now) _ _ _ c.requires.cost c.put_values.ensures.asked)

pub returns-in-Err-clause-answers : goal.returns-in-Err-clause-answers
returns-in-Err-clause-answers g c =
    memory-answer (Costs (g.S.Shelf.files c.args.shelf.now) (asked_of c.args.target.now) (request_in c.args.head.now c.args.ends)) _ (request_in c.args.head.now c.args.ends) _ _ c.put_memory.result c.put_memory.ensures.puts refl (0, refl, omega arith)
