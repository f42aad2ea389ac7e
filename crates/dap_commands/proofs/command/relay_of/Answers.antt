use Rattle.dap_commands.proofs.RelayWords.{relay-only}
use Rattle.dap_commands.proofs.command.relay_of.Goals as goal

pub returns-in-None-number_to-3 : goal.returns-in-None-number_to-3
returns-in-None-number_to-3 c = λ is. let words = relay-only c.args.host.now c.args.upport.now c.args.port.now c.args.room.now c.args.requests.now is in c.in-None-number_to-3.ensures words.requests.0 words.requests.1

pub returns-in-None-number_to-2 : goal.returns-in-None-number_to-2
returns-in-None-number_to-2 c = λ is. let words = relay-only c.args.host.now c.args.upport.now c.args.port.now c.args.room.now c.args.requests.now is in c.in-None-number_to-2.ensures words.room.0 words.room.1

pub returns-in-None-number_to : goal.returns-in-None-number_to
returns-in-None-number_to c = λ is. let words = relay-only c.args.host.now c.args.upport.now c.args.port.now c.args.room.now c.args.requests.now is in c.in-None-number_to.ensures words.port.0 words.port.1

pub returns-in-None : goal.returns-in-None
returns-in-None c = λ is. let words = relay-only c.args.host.now c.args.upport.now c.args.port.now c.args.room.now c.args.requests.now is in c.in-None.ensures words.upport.0 words.upport.1
