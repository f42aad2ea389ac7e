use Rattle.std.proofs.Common.{Ok, refl, ◌∙◌, inl, inr}
use Rattle.dap_server.specs.Results.{result_text}
use Rattle.dap_server.specs.inner.Serving.{request_in}
use Rattle.dap_server.proofs.Replying.{or-false, reply-put, text-reply}
use Rattle.dap_server.proofs.answer.put_text.Goals as goal

pub returns-in-Ok-clause-puts : goal.returns-in-Ok-clause-puts
returns-in-Ok-clause-puts g c =
    let q = request_in c.args.head.now c.args.ends in
    inl (reply-put q (Ok (result_text c.args.kind c.args.text.now)) _ 200 c.args.ends _ _ c.put_reply.result
    (c.bytes.ensures ∙ text-reply q c.args.kind c.args.text.now c.is_head.result c.in-Ok.reply c.requires (c.is_head.ensures c.args.ends) c.in-Ok.ensures)
    refl (or-false c.args.ends) c.put_reply.ensures.puts)

pub returns-in-Err-clause-puts : goal.returns-in-Err-clause-puts
returns-in-Err-clause-puts g c = inr c.put_memory.ensures.puts
