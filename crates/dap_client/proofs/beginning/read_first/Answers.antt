use Rattle.std.proofs.Common.{ap, length, length-take, arith}
use Rattle.dap_errors.specs.Reading.{limit}
use Rattle.dap_client.proofs.beginning.read_first.Goals as goal

pub wait-requires : goal.wait-requires
wait-requires c = let (bytes, long, word, kept) = c.requires.stands in omega (arith, ap length kept, length-take limit bytes)

pub begin_object-requires-clause-stands : goal.begin_object-requires-clause-stands
begin_object-requires-clause-stands c = c.requires.stands

pub returns-in-Open : goal.returns-in-Open
returns-in-Open c bytes long word kept = c.wait.ensures bytes (c.in-Open.ensures bytes word) kept

pub returns-in-Error : goal.returns-in-Error
returns-in-Error c bytes long word kept = c.begin_object.ensures bytes long word kept (c.in-Error.ensures bytes word)

pub returns-in-Other : goal.returns-in-Other
returns-in-Other c bytes long word kept = c.in-Other.ensures bytes word
