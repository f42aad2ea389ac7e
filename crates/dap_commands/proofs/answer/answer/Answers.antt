use Rattle.std.proofs.Common.{◌≡◌, ◌∙◌, None, Err, ap, subst, sym}
use Rattle.std.specs.Io.KnownBytes.{Appends}
use Rattle.dap_errors.specs.declared.cause.Cause.TheVariants.{BadTarget}
use Rattle.dap_http.specs.Targets.{target_of}
use Rattle.dap_outside.specs.Causes.{Rose}
use Rattle.dap_outside.specs.Streams.{AppendsFront}
use Rattle.dap_commands.proofs.Answering as answering
use Rattle.dap_commands.specs.Answer.{status_of_result}
use Rattle.dap_commands.specs.Lines.{IsSaid}
use Rattle.dap_commands.proofs.answer.answer.Goals as goal

pub returns-in-Err-BadTarget-clause-says : goal.returns-in-Err-BadTarget-clause-says
returns-in-Err-BadTarget-clause-says g c =
    let none : target_of c.args.target.now ≡ None = subst (λ t. target_of t ≡ None) c.as_bytes.ensures.value (c.in-Err-BadTarget.ensures.bad (ap Err c.in-Err-BadTarget.field-0-is)) in
    answering.refuse_says (g.S.Shelf.files c.args.shelf.now) c.args.target.now (Appends (g.O.Sink.written c.args.out.now) (g.O.Sink.written c.put_cause.new.out)) (AppendsFront (g.O.Sink.written c.args.out.now) (g.O.Sink.written c.put_cause.new.out)) (λ line. IsSaid line (g.E.Sink.put_faults c.args.err.now) (g.E.Sink.put_faults c.put_cause.new.err) (g.E.Sink.written c.args.err.now) (g.E.Sink.written c.put_cause.new.err)) BadTarget c.put_cause.result (answering.bad_result _ c.args.target.now none) c.put_cause.ensures.put

pub returns-in-Err-BadTarget-clause-only : goal.returns-in-Err-BadTarget-clause-only
returns-in-Err-BadTarget-clause-only g c = λ r must still quiet had.
    let none : target_of c.args.target.now ≡ None = subst (λ t. target_of t ≡ None) c.as_bytes.ensures.value (c.in-Err-BadTarget.ensures.bad (ap Err c.in-Err-BadTarget.field-0-is)) in
    answering.refuse_only BadTarget (Appends (g.O.Sink.written c.args.out.now) (g.O.Sink.written c.put_cause.new.out)) (AppendsFront (g.O.Sink.written c.args.out.now) (g.O.Sink.written c.put_cause.new.out)) (λ line. IsSaid line (g.E.Sink.put_faults c.args.err.now) (g.E.Sink.put_faults c.put_cause.new.err) (g.E.Sink.written c.args.err.now) (g.E.Sink.written c.put_cause.new.err)) (Rose (g.O.Sink.put_faults c.args.out.now) (g.O.Sink.put_faults c.put_cause.new.out)) c.put_cause.result c.put_cause.ensures.put c.put_cause.ensures.write_fault quiet had
    ∙ sym (ap status_of_result (answering.must_be_bad _ c.args.target.now r none must))

pub returns-in-Err-Memory-clause-asked : goal.returns-in-Err-Memory-clause-asked
returns-in-Err-Memory-clause-asked g c = answering.asks_nothing _ c.args.target.now _
