use Rattle.std.proofs.Common.{◌≡◌, ◌≤◌}
use Rattle.dap_gateway.specs.Pairs.{pairs, room_of}
use Rattle.dap_commands.proofs.Gateways.{All-from}
use Rattle.dap_client.specs.Fetched.{link_state}
use Rattle.dap_commands.proofs.relaying.relay_links.Given as goal

abbrev pub invariant-loop-number : goal.invariant-loop-number
invariant-loop-number g l =
    let door = g.D.Door in
    let dial = g.C.Dial in
    let sink = g.O.Sink in
    let from = g.D.Wire.Source in
    let to = g.D.Wire.Sink in
    let asked = g.C.Wire.Source in
    let told = g.C.Wire.Sink in
    record {
      within : l.number ≤ l.requests;
      so_far : All-from
          (record {
            door_link = link_state from to;
            dial_link = link_state asked told;
            dial = λ d. record { back = dial.back d; faults = dial.faults d };
            host = l.fn.host;
            port = l.fn.upport;
            room = room_of l.fn.cache;
          }) l.requests (pairs l.fn.cache) (record { back = door.back l.fn.door; dial = l.fn.dial; written = sink.written l.fn.out }) l.number (pairs l.cache) (record { back = door.back l.door; dial = l.dial; written = sink.written l.out });
      room : room_of l.cache ≡ room_of l.fn.cache;
      listens : door.listens_at l.door ≡ door.listens_at l.fn.door;
      beside : sink.beside_writing l.out ≡ sink.beside_writing l.fn.out;
      door_count : door.faults l.door ≡ door.faults l.fn.door;
      out_count : sink.put_faults l.out ≡ sink.put_faults l.fn.out;
    }
