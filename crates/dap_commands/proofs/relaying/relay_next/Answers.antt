use Rattle.std.proofs.Common.{ap, ◌∙◌, [], ◌∷◌, ◌++◌, option_map}
use Rattle.dap_gateway.specs.Pairs.{room_of}
use Rattle.dap_commands.proofs.Gateways.{came-of}
use Rattle.dap_client.specs.Fetched.{link_state}
use Rattle.dap_commands.proofs.relaying.relay_next.Goals as goal

pub returns-clause-relayed : goal.returns-clause-relayed
returns-clause-relayed g c =
    let come = c.in_ok-link.ensures in
    let does = c.relay_connection-relayed.ensures in
    let (taken, consumes, relays) = does.relays in
    let dial = g.C.Dial in
    let from = g.D.Wire.Source in
    let to = g.D.Wire.Sink in
    let asked = g.C.Wire.Source in
    let told = g.C.Wire.Sink in
    came-of (record {
      door_link = link_state from to;
      dial_link = link_state asked told;
      dial = λ d. record { back = dial.back d; faults = dial.faults d };
      host = c.args.host.now;
      port = c.args.upport;
      room = room_of c.args.cache.now;
    }) c.in_ok-link.link c.relay_connection-relayed.new.link _ _ _ _ _ _ taken _ (c.done.ensures.back ∙ ap (option_map (λ links. links ++ c.relay_connection-relayed.new.link ∷ [])) come.back)
    (record { all_left = come.all_left; going = come.going; none_written = come.none_written; takes = come.takes; puts = come.puts }) does.whole consumes relays does.later_dial does.read_fault does.kept_reading does.write_fault does.kept
