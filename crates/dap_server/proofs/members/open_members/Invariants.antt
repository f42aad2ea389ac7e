use Rattle.std.proofs.Common.{◌≡◌, ◌+◌, ◌≤◌, drop}
use Rattle.dap_server.proofs.BadLines.{NoneBad}
use Rattle.dap_server.proofs.OpenedLines.{HaveOpened}
use Rattle.dap_server.specs.inner.Members.{most_in_first, most_in_lines}
use Rattle.dap_server.proofs.members.open_members.Given as goal

abbrev pub invariant-loop-k : goal.invariant-loop-k
invariant-loop-k g l =
    let shelf = g.S.Shelf in
    let told = shelf.files l.fn.shelf in
    record {
      opened : HaveOpened told l.names l.k (shelf.content l.fn.shelf) (shelf.size_of l.fn.shelf) l.headers l.files;
      asked : shelf.asked l.shelf + most_in_lines told (drop l.k l.names) ≤ shelf.asked l.fn.shelf + most_in_lines told l.names;
      asked_before : shelf.asked l.shelf ≤ shelf.asked l.fn.shelf + most_in_first told l.k l.names;
      good : NoneBad told l.names l.k;
      stays : shelf.faults l.shelf ≡ shelf.faults l.fn.shelf;
      files : shelf.files l.shelf ≡ shelf.files l.fn.shelf;
      contents : shelf.content l.shelf ≡ shelf.content l.fn.shelf;
      sizes : shelf.size_of l.shelf ≡ shelf.size_of l.fn.shelf;
    }
