use Rattle.std.proofs.Common.{◌≡◌, ◌++◌, All, sym, ap, ◌∙◌, subst, append-nil}
use Rattle.xdr_encode.proofs.Walk.{leaves-none}
use Rattle.xdr_encode.specs.Bodies.{FitsFile, HasNoFile, front_in, leaves_in, text_in}
use Rattle.xdr_encode.specs.Rows.{front_text}
use Rattle.xdr_encode.specs.Sent.{IsInside, leaves_xdr}
use Rattle.xdr_encode.specs.Streamed.{StreamsAlone}
use Rattle.xdr_encode.proofs.body.Body.stream.Goals as goal

pub send_in_rooms-requires-clause-inside : goal.send_in_rooms-requires-clause-inside
unfolding FitsFile
send_in_rooms-requires-clause-inside g c κs within =
    subst (All (IsInside (g.S.Shelf.size_of c.args.shelf.now c.args.file.now))) (sym c.items-leaves.ensures) c.requires.fits

pub returns-clause-alone : goal.returns-clause-alone
unfolding HasNoFile text_in
returns-clause-alone g c = λ none.
    let alone = c.send_in_rooms.ensures.alone (c.items-leaves.ensures ∙ none) in
    let front : StreamsAlone c.send_in_rooms.result (g.O.Sink.written c.args.out.now) (g.O.Sink.written c.send_in_rooms.new.out) (front_in c.args.self.now)
    = subst (λ head. StreamsAlone c.send_in_rooms.result (g.O.Sink.written c.args.out.now) (g.O.Sink.written c.send_in_rooms.new.out) (front_text head c.args.self.now.rows)) c.bytes-head.ensures alone.1 in (
      alone.0,
      λ bytes.
          let same : front_in c.args.self.now ≡ front_in c.args.self.now ++ leaves_xdr (leaves_in c.args.self.now) bytes
          = sym (ap (λ ls. front_in c.args.self.now ++ leaves_xdr ls bytes) none ∙ ap (λ l. front_in c.args.self.now ++ l) (leaves-none bytes) ∙ append-nil (front_in c.args.self.now)) in
          subst (λ text. StreamsAlone c.send_in_rooms.result (g.O.Sink.written c.args.out.now) (g.O.Sink.written c.send_in_rooms.new.out) text) same front,
    )
