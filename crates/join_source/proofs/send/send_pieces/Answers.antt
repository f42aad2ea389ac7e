use Rattle.std.proofs.Common.{◌+◌, ℕ, List, map, refl, sym, ◌∙◌, subst, arith}
use Rattle.std.specs.Io.KnownBytes.{Appends}
use Rattle.std.proofs.KnownBytes.{Appends-nil}
use Rattle.dap_outside.proofs.Fronts.{on_err}
use Rattle.xdr_encode.specs.Streamed.{Stops}
use Rattle.join_source.proofs.Walk.{AskAll, pieces-none, this-piece, ask-next, ask-bound, pieces-more, pieces-stop, cost-so-far, all-pieces}
use Rattle.join_source.specs.Begun.{HaveBegun}
use Rattle.join_source.specs.Pieces.{AreTold, IsInside, pieces_xdr}
use Rattle.join_source.proofs.send.send_pieces.Goals as goal

pub loop-piece-init : goal.loop-piece-init
loop-piece-init g c = record {
  text = λ contents told. subst (λ text. Appends (g.O.Sink.written c.args.out.now) (g.O.Sink.written c.args.out.now) text) (sym (pieces-none contents)) (Appends-nil (g.O.Sink.written c.args.out.now));
  asked = omega arith;
  same_files = refl;
  same_sizes = refl;
  files = refl;
  greatest = omega arith;
  reads = refl;
  puts = refl;
  beside = refl;
}

pub send_piece-requires-clause-inside : goal.send_piece-requires-clause-inside
send_piece-requires-clause-inside g c lifetimes outlive =
    subst (λ sizes. IsInside sizes c.piece-item.result) (sym c.loop-piece.invariant.same_sizes)
    (this-piece c.args.pieces.now c.loop-piece.piece-index c.piece-item.result c.loop-piece-test.true c.piece-item.is (IsInside (map (g.S.Shelf.size_of c.args.shelf.now) c.args.files.now)) c.requires.inside)

pub returns-in_err-send_piece-clause-err : goal.returns-in_err-send_piece-clause-err
returns-in_err-send_piece-clause-err g c =
    let kept = c.loop-piece.invariant in
    let stopped : (contents : List (List ℕ)) (at : ℕ) → AreTold (map (g.S.Shelf.content c.args.shelf.now) c.args.files.now) contents →
    Stops (pieces_xdr c.args.pieces.now contents) (λ put asked. HaveBegun c.args.pieces.now contents at (at + put) asked) (g.O.Sink.written c.args.out.now) (g.O.Sink.written c.send_piece.new.out) (g.S.Shelf.asked c.args.shelf.now) (g.S.Shelf.asked c.send_piece.new.shelf)
    = λ contents at told.
    pieces-stop c.args.pieces.now c.loop-piece.piece-index c.piece-item.result c.loop-piece-test.true c.piece-item.is contents (g.O.Sink.written c.args.out.now) (g.O.Sink.written c.loop-piece.out) (g.O.Sink.written c.send_piece.new.out) at
    (g.S.Shelf.asked c.args.shelf.now) (g.S.Shelf.asked c.loop-piece.shelf) (g.S.Shelf.asked c.send_piece.new.shelf) (kept.text contents told) kept.asked (c.in_err-send_piece.ensures.err contents (kept.same_files ∙ told)) in
    on_err _ _ stopped

pub returns-in_err-send_piece-clause-asked : goal.returns-in_err-send_piece-clause-asked
returns-in_err-send_piece-clause-asked g c =
    cost-so-far c.args.pieces.now c.loop-piece.piece-index c.piece-item.result c.loop-piece-test.true c.piece-item.is (g.S.Shelf.asked c.args.shelf.now) (g.S.Shelf.asked c.loop-piece.shelf) (g.S.Shelf.asked c.send_piece.new.shelf) c.loop-piece.invariant.asked c.send_piece.ensures.asked

pub loop-piece-preserved : goal.loop-piece-preserved
loop-piece-preserved g c =
    let kept = c.loop-piece.invariant in
    let sent = c.send_piece.ensures in
    record {
      text = λ contents told.
          pieces-more c.args.pieces.now c.loop-piece.piece-index c.piece-item.result c.loop-piece-test.true c.piece-item.is contents (g.O.Sink.written c.args.out.now) (g.O.Sink.written c.loop-piece.out) (g.O.Sink.written c.send_piece.new.out)
          (kept.text contents told) (c.in_ok-send_piece.ensures.ok contents (kept.same_files ∙ told));
      asked = ask-next c.args.pieces.now c.loop-piece.piece-index c.piece-item.result c.loop-piece-test.true c.piece-item.is (g.S.Shelf.asked c.args.shelf.now) (g.S.Shelf.asked c.loop-piece.shelf) (g.S.Shelf.asked c.send_piece.new.shelf) kept.asked c.in_ok-send_piece.ensures.read;
      same_files = sent.same_files ∙ kept.same_files;
      same_sizes = sent.same_sizes ∙ kept.same_sizes;
      files = sent.files ∙ kept.files;
      greatest = omega (arith, sent.greatest, kept.greatest);
      reads = c.in_ok-send_piece.ensures.cause.kept.0 ∙ kept.reads;
      puts = c.in_ok-send_piece.ensures.cause.kept.1 ∙ kept.puts;
      beside = sent.beside ∙ kept.beside;
    }

pub returns-clause-ok : goal.returns-clause-ok
returns-clause-ok g c = λ contents told.
    subst (λ ps. Appends (g.O.Sink.written c.args.out.now) (g.O.Sink.written c.loop-piece.out) (pieces_xdr ps contents)) (all-pieces c.args.pieces.now c.loop-piece.piece-index c.loop-piece-test.false) (c.loop-piece.invariant.text contents told)

pub returns-clause-asked : goal.returns-clause-asked
returns-clause-asked g c =
    ask-bound c.args.pieces.now (g.S.Shelf.asked c.args.shelf.now) (g.S.Shelf.asked c.loop-piece.shelf)
    (subst (λ ps. AskAll ps (g.S.Shelf.asked c.args.shelf.now) (g.S.Shelf.asked c.loop-piece.shelf)) (all-pieces c.args.pieces.now c.loop-piece.piece-index c.loop-piece-test.false) c.loop-piece.invariant.asked)
