use Rattle.std.proofs.Common.{◌++◌, ◌∙◌, sym, ap, inl, inr}
use Rattle.dap_http.specs.Frames.{framed}
use Rattle.dap_http.specs.Framings.{front_of}
use Rattle.dap_server.specs.inner.Serving.{request_in}
use Rattle.dap_server.proofs.Replying.{get-reply, text-put}
use Rattle.dap_server.proofs.saved_answer.put_with_values.Goals as goal

pub returns-in-Ok-clause-puts : goal.returns-in-Ok-clause-puts
returns-in-Ok-clause-puts g c = λ text is.
    let q = request_in c.args.head.now c.args.ends in
    let front = front_of c.in-Ok.framer in
    inl (text-put _ _ 200 c.args.ends _ _ c.put_response.result
    (ap (λ b. front ++ framed b text) (c.in-Ok.ensures.chunked ∙ c.is_chunked-chunked.ensures) ∙ sym (get-reply q text front c.requires.get (c.in-Ok.ensures.front ∙ c.requires.front)))
    (c.put_response.ensures.puts text is))

pub returns-in-Err-clause-puts : goal.returns-in-Err-clause-puts
returns-in-Err-clause-puts g c = λ text is. inr c.put_memory.ensures.puts
