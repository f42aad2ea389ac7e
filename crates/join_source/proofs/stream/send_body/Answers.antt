use Rattle.std.proofs.Common.{◌+◌, ◌++◌, OnOk, OnErr, length, sym, subst, arith}
use Rattle.std.specs.Io.KnownBytes.{Appends}
use Rattle.xdr_encode.specs.Streamed.{Stops, StopsAtFault, Streams}
use Rattle.join_source.proofs.Files.{on_err-map, on_ok-map}
use Rattle.join_source.proofs.Streaming.{body-stops, body-streams, stops-in-head}
use Rattle.join_source.specs.Begun.{HaveBegun}
use Rattle.join_source.specs.Pieces.{pieces_xdr}
use Rattle.join_source.proofs.stream.send_body.Goals as goal

pub returns-in_default-clause-stops : goal.returns-in_default-clause-stops
returns-in_default-clause-stops g c = λ contents told.
    stops-in-head c.args.head.now c.args.pieces.now contents (g.O.Sink.written c.args.out.now) (g.O.Sink.written c.args.out.now) (g.O.Sink.written c.put_all.new.out) (g.S.Shelf.asked c.args.shelf.now) (g.S.Shelf.asked c.args.shelf.now)
    c.in_default.ensures.err (omega arith)

pub returns-clause-body : goal.returns-clause-body
returns-clause-body g c = λ contents told.
    let put : OnOk c.send_pieces.result (Appends (g.O.Sink.written c.put_all.new.out) (g.O.Sink.written c.send_pieces.new.out) (pieces_xdr c.args.pieces.now contents))
    = on_ok-map c.send_pieces.result (λ f. f contents told) c.send_pieces.ensures.ok in
    let stopped : OnErr c.send_pieces.result (Stops (pieces_xdr c.args.pieces.now contents) (λ put asked. HaveBegun c.args.pieces.now contents (length c.args.head.now) (length c.args.head.now + put) asked) (g.O.Sink.written c.put_all.new.out) (g.O.Sink.written c.send_pieces.new.out) (g.S.Shelf.asked c.args.shelf.now) (g.S.Shelf.asked c.send_pieces.new.shelf))
    = on_err-map c.send_pieces.result (λ f. f contents (length c.args.head.now) told) c.send_pieces.ensures.err in
    subst (λ r. Streams r (g.O.Sink.written c.args.out.now) (g.O.Sink.written c.send_pieces.new.out) (c.args.head.now ++ pieces_xdr c.args.pieces.now contents)) (sym c.streamed_of.ensures)
    (body-streams c.args.head.now c.args.pieces.now contents (g.O.Sink.written c.args.out.now) (g.O.Sink.written c.put_all.new.out) (g.O.Sink.written c.send_pieces.new.out) (g.S.Shelf.asked c.args.shelf.now) (g.S.Shelf.asked c.send_pieces.new.shelf) c.send_pieces.result c.in-Ok.ensures.ok put stopped)

pub returns-clause-stops : goal.returns-clause-stops
returns-clause-stops g c = λ contents told.
    let stopped : OnErr c.send_pieces.result (Stops (pieces_xdr c.args.pieces.now contents) (λ put asked. HaveBegun c.args.pieces.now contents (length c.args.head.now) (length c.args.head.now + put) asked) (g.O.Sink.written c.put_all.new.out) (g.O.Sink.written c.send_pieces.new.out) (g.S.Shelf.asked c.args.shelf.now) (g.S.Shelf.asked c.send_pieces.new.shelf))
    = on_err-map c.send_pieces.result (λ f. f contents (length c.args.head.now) told) c.send_pieces.ensures.err in
    subst (λ r. StopsAtFault r (c.args.head.now ++ pieces_xdr c.args.pieces.now contents) (λ put asked. HaveBegun c.args.pieces.now contents (length c.args.head.now) put asked) (g.O.Sink.written c.args.out.now) (g.O.Sink.written c.send_pieces.new.out) (g.S.Shelf.asked c.args.shelf.now) (g.S.Shelf.asked c.send_pieces.new.shelf)) (sym c.streamed_of.ensures)
    (body-stops c.args.head.now c.args.pieces.now contents (g.O.Sink.written c.args.out.now) (g.O.Sink.written c.put_all.new.out) (g.O.Sink.written c.send_pieces.new.out) (g.S.Shelf.asked c.args.shelf.now) (g.S.Shelf.asked c.send_pieces.new.shelf) c.send_pieces.result c.in-Ok.ensures.ok stopped)
