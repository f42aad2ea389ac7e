use Rattle.std.proofs.Common.{◌≡◌, ◌≤◌}
use Rattle.dap_commands.proofs.Visiting.{All-from, standing}
use Rattle.dap_client.specs.Fetched.{link_state}
use Rattle.dap_commands.proofs.serving.serve_links.Given as goal

abbrev pub invariant-loop-number : goal.invariant-loop-number
invariant-loop-number g l =
    let door = g.D.Door in
    let shelf = g.S.Shelf in
    let sink = g.O.Sink in
    let from = g.D.Wire.Source in
    let to = g.D.Wire.Sink in
    record {
      within : l.number ≤ l.requests;
      so_far : All-from (shelf.files l.fn.shelf)
          (link_state from to) l.requests
          (standing (door.back l.fn.door) (shelf.faults l.fn.shelf) (shelf.asked l.fn.shelf) (sink.written l.fn.out)) l.number (standing (door.back l.door) (shelf.faults l.shelf) (shelf.asked l.shelf) (sink.written l.out));
      listens : door.listens_at l.door ≡ door.listens_at l.fn.door;
      files : shelf.files l.shelf ≡ shelf.files l.fn.shelf;
      beside : sink.beside_writing l.out ≡ sink.beside_writing l.fn.out;
      door_count : door.faults l.door ≡ door.faults l.fn.door;
      out_count : sink.put_faults l.out ≡ sink.put_faults l.fn.out;
    }
