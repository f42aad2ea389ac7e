use Rattle.std.proofs.Common.{◌∙◌, Some, ap, drop, sym}
use Rattle.dap_cases.proofs.Giving.{given}
use Rattle.dap_cases.proofs.case_verdict.said_of.Goals as goal

pub returns-clause-given : goal.returns-clause-given
returns-clause-given g c =
    given (g.S.Shelf.files c.args.shelf.now) c.args.words.now c.args.input.now c.run-status.result _ _ _ _ _ c.in_ok-new-2.field-0 c.in_ok-new-3.field-0 _ c.run-status.new.err.calls.faults _
    (c.new-input.ensures.left ∙ ap Some c.in_ok-new.ensures) c.in_ok-out.ensures.written (c.bytes.ensures.told ∙ ap Some (sym c.in_ok-new-2.ensures)) c.in_ok-err.ensures.written
    (c.bytes-2.ensures.told ∙ ap Some (sym c.in_ok-new-3.ensures)) c.in_ok-err.ensures.faults c.number.ensures
    record {
      answer = c.run-status.ensures.answer;
      show = λ is. (Some (drop c.run-status.new.input.at c.run-status.new.input.bytes), c.run-status.new.input.ended, c.run-status.ensures.show is);
      ver = c.run-status.ensures.ver;
      soak = c.run-status.ensures.soak;
      no_command = λ other. ap (λ s. Some s.buffer.items) (c.run-status.ensures.no_command other).1;
      usage = c.run-status.ensures.words;
      line = c.run-status.ensures.said;
      silent = λ complete. ap (λ s. Some s.buffer.items) (c.run-status.ensures.silent complete);
    }
