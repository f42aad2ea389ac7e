use Rattle.std.proofs.Common.{◌≡◌, ◌≤◌, ◌<◌, ℕ, List, [], Some, All, max, take}
use Rattle.std.specs.Io.KnownBytes.{Appends}
use Rattle.xdr_encode.specs.Sent.{AskAll, leaves_xdr}
use Rattle.xdr_encode.proofs.leaves.send_leaves.Given as goal

abbrev pub invariant-loop-leaf : goal.invariant-loop-leaf
invariant-loop-leaf g l =
    let shelf = g.S.Shelf in
    let sink = g.O.Sink in
    record {
      text : (bytes : List ℕ) → All (λ b. b < 256) bytes → shelf.content l.fn.shelf l.fn.file ≡ Some bytes → Appends (sink.written l.fn.out) (sink.written l.out) (leaves_xdr (take l.leaf-index l.leaves) bytes);
      asked : AskAll (take l.leaf-index l.leaves) (shelf.asked l.fn.shelf) (shelf.asked l.shelf);
      same_file : shelf.content l.shelf l.file ≡ shelf.content l.fn.shelf l.fn.file;
      same_size : shelf.size_of l.shelf l.file ≡ shelf.size_of l.fn.shelf l.fn.file;
      files : shelf.files l.shelf ≡ shelf.files l.fn.shelf;
      greatest : shelf.greatest l.shelf ≤ max (shelf.greatest l.fn.shelf) 65536;
      reads : shelf.faults l.shelf ≡ shelf.faults l.fn.shelf;
      puts : sink.put_faults l.out ≡ sink.put_faults l.fn.out;
      beside : sink.beside_writing l.out ≡ sink.beside_writing l.fn.out;
      alone : l.leaves ≡ [] → (l.shelf ≡ l.fn.shelf) × (l.out ≡ l.fn.out);
    }
