use Rattle.std.proofs.Common.{◌≡◌, ◌<◌, ◌++◌, Some, All, OnOk, OnErr, refl, sym, subst, length, arith}
use Rattle.std.specs.Io.KnownBytes.{Appends}
use Rattle.xdr_encode.proofs.Beginning.{stops-in-front}
use Rattle.xdr_encode.proofs.Bodies.{at-file, at-file-err, apply-ok, apply-err, body-stops, body-streams, streams-alone, write-fault-alone}
use Rattle.xdr_encode.specs.Begun.{HaveBegun}
use Rattle.xdr_encode.specs.Rows.{front_text}
use Rattle.xdr_encode.specs.Sent.{LeavesStop, leaves_xdr}
use Rattle.xdr_encode.specs.Streamed.{StopsAtFault, Streams, StreamsAlone}
use Rattle.xdr_encode.proofs.stream.send_body.Goals as goal

pub returns-clause-body : goal.returns-clause-body
returns-clause-body g c = λ bytes e.
    let h : All (λ b. b < 256) bytes = g.met.S.Shelf.content_is_bytes c.args.shelf.now c.args.file.now bytes e in
    let put : OnOk c.send_leaves.result (Appends (g.O.Sink.written c.put_front.new.out) (g.O.Sink.written c.send_leaves.new.out) (leaves_xdr c.args.leaves.now bytes))
    = apply-ok c.send_leaves.result (All (λ b. b < 256) bytes) (g.S.Shelf.content c.args.shelf.now c.args.file.now ≡ Some bytes) (Appends (g.O.Sink.written c.put_front.new.out) (g.O.Sink.written c.send_leaves.new.out) (leaves_xdr c.args.leaves.now bytes)) h e
    (at-file c.send_leaves.result (λ bytes. All (λ b. b < 256) bytes → g.S.Shelf.content c.args.shelf.now c.args.file.now ≡ Some bytes → Appends (g.O.Sink.written c.put_front.new.out) (g.O.Sink.written c.send_leaves.new.out) (leaves_xdr c.args.leaves.now bytes)) bytes c.send_leaves.ensures.ok) in
    let stopped : OnErr c.send_leaves.result (LeavesStop c.args.leaves.now bytes (g.O.Sink.written c.put_front.new.out) (g.O.Sink.written c.send_leaves.new.out) (g.S.Shelf.asked c.args.shelf.now) (g.S.Shelf.asked c.send_leaves.new.shelf))
    = apply-err c.send_leaves.result (All (λ b. b < 256) bytes) (g.S.Shelf.content c.args.shelf.now c.args.file.now ≡ Some bytes) (LeavesStop c.args.leaves.now bytes (g.O.Sink.written c.put_front.new.out) (g.O.Sink.written c.send_leaves.new.out) (g.S.Shelf.asked c.args.shelf.now) (g.S.Shelf.asked c.send_leaves.new.shelf)) h e
    (at-file-err c.send_leaves.result (λ bytes. All (λ b. b < 256) bytes → g.S.Shelf.content c.args.shelf.now c.args.file.now ≡ Some bytes → LeavesStop c.args.leaves.now bytes (g.O.Sink.written c.put_front.new.out) (g.O.Sink.written c.send_leaves.new.out) (g.S.Shelf.asked c.args.shelf.now) (g.S.Shelf.asked c.send_leaves.new.shelf)) bytes c.send_leaves.ensures.err) in
    subst (λ r. Streams r (g.O.Sink.written c.args.out.now) (g.O.Sink.written c.send_leaves.new.out) ((front_text c.args.head.now c.args.rows.now) ++ leaves_xdr c.args.leaves.now bytes)) (sym c.streamed_of.ensures)
    (body-streams c.send_leaves.result (front_text c.args.head.now c.args.rows.now) c.args.leaves.now bytes (g.O.Sink.written c.args.out.now) (g.O.Sink.written c.put_front.new.out) (g.O.Sink.written c.send_leaves.new.out) (g.S.Shelf.asked c.args.shelf.now) (g.S.Shelf.asked c.send_leaves.new.shelf) c.in-Ok.ensures.ok put stopped)

pub returns-in_default-clause-stops : goal.returns-in_default-clause-stops
returns-in_default-clause-stops g c = λ bytes e.
    stops-in-front (front_text c.args.head.now c.args.rows.now) c.args.leaves.now bytes (g.O.Sink.written c.args.out.now) (g.O.Sink.written c.args.out.now) (g.O.Sink.written c.put_front.new.out) (g.S.Shelf.asked c.args.shelf.now) (g.S.Shelf.asked c.args.shelf.now)
    c.in_default.ensures.err (omega arith)

pub returns-clause-stops : goal.returns-clause-stops
returns-clause-stops g c = λ bytes e.
    let h : All (λ b. b < 256) bytes = g.met.S.Shelf.content_is_bytes c.args.shelf.now c.args.file.now bytes e in
    let stopped : OnErr c.send_leaves.result (LeavesStop c.args.leaves.now bytes (g.O.Sink.written c.put_front.new.out) (g.O.Sink.written c.send_leaves.new.out) (g.S.Shelf.asked c.args.shelf.now) (g.S.Shelf.asked c.send_leaves.new.shelf))
    = apply-err c.send_leaves.result (All (λ b. b < 256) bytes) (g.S.Shelf.content c.args.shelf.now c.args.file.now ≡ Some bytes) (LeavesStop c.args.leaves.now bytes (g.O.Sink.written c.put_front.new.out) (g.O.Sink.written c.send_leaves.new.out) (g.S.Shelf.asked c.args.shelf.now) (g.S.Shelf.asked c.send_leaves.new.shelf)) h e
    (at-file-err c.send_leaves.result (λ bytes. All (λ b. b < 256) bytes → g.S.Shelf.content c.args.shelf.now c.args.file.now ≡ Some bytes → LeavesStop c.args.leaves.now bytes (g.O.Sink.written c.put_front.new.out) (g.O.Sink.written c.send_leaves.new.out) (g.S.Shelf.asked c.args.shelf.now) (g.S.Shelf.asked c.send_leaves.new.shelf)) bytes c.send_leaves.ensures.err) in
    subst (λ r. StopsAtFault r (front_text c.args.head.now c.args.rows.now ++ leaves_xdr c.args.leaves.now bytes) (λ put asked. HaveBegun c.args.leaves.now bytes (length (front_text c.args.head.now c.args.rows.now)) put asked) (g.O.Sink.written c.args.out.now) (g.O.Sink.written c.send_leaves.new.out) (g.S.Shelf.asked c.args.shelf.now) (g.S.Shelf.asked c.send_leaves.new.shelf)) (sym c.streamed_of.ensures)
    (body-stops c.send_leaves.result (front_text c.args.head.now c.args.rows.now) c.args.leaves.now bytes (g.O.Sink.written c.args.out.now) (g.O.Sink.written c.put_front.new.out) (g.O.Sink.written c.send_leaves.new.out) (g.S.Shelf.asked c.args.shelf.now) (g.S.Shelf.asked c.send_leaves.new.shelf) c.in-Ok.ensures.ok stopped)

pub returns-in_default-clause-alone : goal.returns-in_default-clause-alone
returns-in_default-clause-alone g c = λ none. (refl, write-fault-alone (front_text c.args.head.now c.args.rows.now) (g.O.Sink.written c.args.out.now) (g.O.Sink.written c.put_front.new.out) c.in_default.ensures.err)

pub returns-clause-alone : goal.returns-clause-alone
returns-clause-alone g c = λ none.
    let alone = c.send_leaves.ensures.alone none in (
      alone.1,
      subst (λ o. StreamsAlone c.streamed_of.result (g.O.Sink.written c.args.out.now) (g.O.Sink.written o) (front_text c.args.head.now c.args.rows.now)) (sym alone.2)
          (streams-alone c.send_leaves.result c.streamed_of.result (front_text c.args.head.now c.args.rows.now) (g.O.Sink.written c.args.out.now) (g.O.Sink.written c.put_front.new.out) alone.0 c.streamed_of.ensures c.in-Ok.ensures.ok),
    )
