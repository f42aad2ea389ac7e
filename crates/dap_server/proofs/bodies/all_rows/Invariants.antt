use Rattle.std.proofs.Common.{◌≡◌, length}
use Rattle.dap_server.proofs.bodies.all_rows.Given as goal

abbrev pub invariant-loop : goal.invariant-loop
invariant-loop l = length l.rows ≡ l.counter
