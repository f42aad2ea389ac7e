use Rattle.std.proofs.Common.{[], refl}
use Rattle.std.specs.Io.KnownBytes.{Appends}
use Rattle.dap_outside.proofs.Fronts.{on_err}
use Rattle.dap_outside.proofs.Passing.{sent_or_stopped}
use Rattle.dap_outside.specs.Streams.{AppendsFront}
use Rattle.saved_source.proofs.Streaming.{all_passed, head_failed, on_err_each, on_ok_each, rest_failed, told}
use Rattle.saved_source.specs.Bodies.{Sends}
use Rattle.saved_source.specs.Responses.{values_of}
use Rattle.saved_source.proofs.body.SavedBody.stream.Goals as goal

pub returns-in_err-put-clause-err : goal.returns-in_err-put-clause-err
returns-in_err-put-clause-err g c = on_err_each c.from_residual.result (Sends c.args.self.now) (λ text. AppendsFront (g.O.Sink.written c.args.out.now) (g.O.Sink.written c.put.new.out) text) (λ text s. on_err _ _ (
    let b = c.args.self.now in
    let t = told b text b.saved.response.members (values_of b.saved) refl refl s in
    head_failed _ _ _ text b.head c.bytes.result.now _ c.new-buffer.ensures c.bytes.ensures t.parts c.in_err-put.ensures.puts))

pub returns-in_err-put-clause-same : goal.returns-in_err-put-clause-same
unfolding Sends
returns-in_err-put-clause-same g c = λ text s. record { values = s.values; holds = s.holds; suits = s.suits; parts = s.parts }

pub returns-in_err-put_members-clause-err : goal.returns-in_err-put_members-clause-err
returns-in_err-put_members-clause-err g c = on_err_each c.from_residual-in_err-put_members.result (Sends c.args.self.now) (λ text. AppendsFront (g.O.Sink.written c.args.out.now) (g.O.Sink.written c.put_members.new.out) text) (λ text s. on_err _ _ (
    let b = c.args.self.now in
    let t = told b text c.items.result.now c.values.result.now c.items.ensures c.values.ensures s in
    rest_failed _ _ _ _ _ text b.head c.bytes.result.now _ c.new-buffer.ensures c.bytes.ensures t.parts c.in_ok-put.ensures.puts (c.in_err-put_members.ensures.puts t.values [] t.stand)))

pub returns-in_err-put_members-clause-same : goal.returns-in_err-put_members-clause-same
unfolding Sends
returns-in_err-put_members-clause-same g c = λ text s. record { values = s.values; holds = s.holds; suits = s.suits; parts = s.parts }

pub returns-clause-ok : goal.returns-clause-ok
returns-clause-ok g c = on_ok_each c.flush.result (Sends c.args.self.now) (λ text. Appends (g.O.Sink.written c.args.out.now) (g.O.Sink.written c.flush.new.out) text) (λ text s.
    let b = c.args.self.now in
    let t = told b text c.items.result.now c.values.result.now c.items.ensures c.values.ensures s in
    (sent_or_stopped c.flush.result _ _ _ _ _ text c.new-buffer.ensures (all_passed _ _ _ _ _ _ text b.head c.bytes.result.now _ c.bytes.ensures t.parts c.in_ok-put.ensures.puts (c.in_ok-put_members.ensures.puts t.values [] t.stand)) c.flush.ensures.ok
    c.flush.ensures.err).0)

pub returns-clause-err : goal.returns-clause-err
returns-clause-err g c = on_err_each c.flush.result (Sends c.args.self.now) (λ text. AppendsFront (g.O.Sink.written c.args.out.now) (g.O.Sink.written c.flush.new.out) text) (λ text s.
    let b = c.args.self.now in
    let t = told b text c.items.result.now c.values.result.now c.items.ensures c.values.ensures s in
    (sent_or_stopped c.flush.result _ _ _ _ _ text c.new-buffer.ensures (all_passed _ _ _ _ _ _ text b.head c.bytes.result.now _ c.bytes.ensures t.parts c.in_ok-put.ensures.puts (c.in_ok-put_members.ensures.puts t.values [] t.stand)) c.flush.ensures.ok
    c.flush.ensures.err).1)

pub returns-clause-same : goal.returns-clause-same
unfolding Sends
returns-clause-same g c = λ text s. record { values = s.values; holds = s.holds; suits = s.suits; parts = s.parts }
