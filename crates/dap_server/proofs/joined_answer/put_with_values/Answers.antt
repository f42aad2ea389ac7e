use Rattle.std.proofs.Common.{◌∙◌, subst, refl, arith}
use Rattle.std.specs.Prelude.{map}
use Rattle.dap_http.specs.Targets.{asked_of}
use Rattle.dap_http.specs.Frames.{framed}
use Rattle.dap_http.specs.Framings.{front_of}
use Rattle.join_source.specs.Bodies.{text_in}
use Rattle.join_source.specs.Pieces.{AreTold}
use Rattle.dap_server.specs.inner.Serving.{Costs, PutsValues, request_in}
use Rattle.dap_server.proofs.Answered.{costs-less}
use Rattle.dap_server.proofs.JoinedReplies.{joined-answer}
use Rattle.dap_server.proofs.Replying.{memory-answer}
use Rattle.dap_server.proofs.joined_answer.put_with_values.Goals as goal

pub put_joined-requires-clause-fits : goal.put_joined-requires-clause-fits
put_joined-requires-clause-fits g c lifetimes outlive = c.requires.joined.fits

pub returns-in-Ok-clause-answers : goal.returns-in-Ok-clause-answers
returns-in-Ok-clause-answers g c =
    let q = request_in c.args.head.now c.args.ends in
    joined-answer _ q (asked_of c.args.target.now) (front_of c.in-Ok.framer) (AreTold (map (g.S.Shelf.content c.args.shelf.now) c.args.files.now)) (text_in c.args.body.now) _ _ c.put_joined.result
    c.requires.get (c.in-Ok.ensures.front ∙ c.requires.front) c.requires.served c.requires.target
    (λ contents is. subst (λ b. PutsValues (front_of c.in-Ok.framer) (framed b (text_in c.args.body.now contents)) c.args.ends (g.O.Sink.written c.args.out.now) (g.O.Sink.written c.put_joined.new.out) c.put_joined.result) (c.in-Ok.ensures.chunked ∙ c.is_chunked-chunked.ensures) (c.put_joined.ensures.puts contents is))
    c.put_joined.ensures.last c.put_joined.ensures.grows c.requires.joined.body c.requires.joined.accepted c.requires.joined.of_list.1 c.requires.joined.tells c.put_joined.ensures.shelf_fault
    (costs-less (g.S.Shelf.files c.args.shelf.now) (asked_of c.args.target.now) _ _ _ c.requires.joined.cost c.put_joined.ensures.asked)

pub returns-in-Err-clause-answers : goal.returns-in-Err-clause-answers
returns-in-Err-clause-answers g c =
    memory-answer (Costs (g.S.Shelf.files c.args.shelf.now) (asked_of c.args.target.now) (request_in c.args.head.now c.args.ends)) _ (request_in c.args.head.now c.args.ends) _ _ c.put_memory.result c.put_memory.ensures.puts refl (0, refl, omega arith)
