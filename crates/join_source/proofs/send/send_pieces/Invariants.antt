use Rattle.std.proofs.Common.{◌≡◌, ◌≤◌, ℕ, List, map, max, take}
use Rattle.std.specs.Io.KnownBytes.{Appends}
use Rattle.join_source.proofs.Walk.{AskAll}
use Rattle.join_source.specs.Pieces.{AreTold, pieces_xdr}
use Rattle.join_source.proofs.send.send_pieces.Given as goal

abbrev pub invariant-loop-piece : goal.invariant-loop-piece
invariant-loop-piece g l =
    let shelf = g.S.Shelf in
    let sink = g.O.Sink in
    record {
      text : (contents : List (List ℕ)) → AreTold (map (shelf.content l.fn.shelf) l.fn.files) contents → Appends (sink.written l.fn.out) (sink.written l.out) (pieces_xdr (take l.piece-index l.pieces) contents);
      asked : AskAll (take l.piece-index l.pieces) (shelf.asked l.fn.shelf) (shelf.asked l.shelf);
      same_files : map (shelf.content l.shelf) l.files ≡ map (shelf.content l.fn.shelf) l.fn.files;
      same_sizes : map (shelf.size_of l.shelf) l.files ≡ map (shelf.size_of l.fn.shelf) l.fn.files;
      files : shelf.files l.shelf ≡ shelf.files l.fn.shelf;
      greatest : shelf.greatest l.shelf ≤ max (shelf.greatest l.fn.shelf) 65536;
      reads : shelf.faults l.shelf ≡ shelf.faults l.fn.shelf;
      puts : sink.put_faults l.out ≡ sink.put_faults l.fn.out;
      beside : sink.beside_writing l.out ≡ sink.beside_writing l.fn.out;
    }
