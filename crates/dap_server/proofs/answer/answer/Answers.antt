use Rattle.std.proofs.Common.{Err, ◌∙◌, sym, ap}
use Rattle.dap_http.specs.Targets.{target_of}
use Rattle.dap_server.specs.inner.Serving.{request_in}
use Rattle.dap_server.proofs.Answered.{early-answer, method-answer, target-answer}
use Rattle.dap_server.proofs.answer.answer.Goals as goal

pub returns-then-is_other-clause-answers : goal.returns-then-is_other-clause-answers
returns-then-is_other-clause-answers g c =
    method-answer (g.S.Shelf.files c.args.shelf.now) (request_in c.args.head.now c.args.ends) _ _ _ _ c.put_cause.result (sym c.is_other.ensures ∙ c.if-is_other.true) c.put_cause.ensures.puts

pub returns-in-Err-BadTarget-clause-answers : goal.returns-in-Err-BadTarget-clause-answers
returns-in-Err-BadTarget-clause-answers g c =
    target-answer (g.S.Shelf.files c.args.shelf.now) (request_in c.args.head.now c.args.ends) _ _ _ _ c.put_cause-in-Err-BadTarget.result (sym c.is_other.ensures ∙ c.if-is_other.false)
    (ap target_of (sym c.bytes.ensures) ∙ c.read.ensures.bad (c.in-Err-BadTarget.is ∙ ap Err c.in-Err-BadTarget.field-0-is)) c.put_cause-in-Err-BadTarget.ensures.puts

pub returns-in-Err-Memory-clause-answers : goal.returns-in-Err-Memory-clause-answers
returns-in-Err-Memory-clause-answers g c =
    early-answer (g.S.Shelf.files c.args.shelf.now) (request_in c.args.head.now c.args.ends) _ _ _ _ c.put_memory.result c.put_memory.ensures.puts
