use Rattle.std.proofs.Common.{ap, length, ◌∷◌, [], true, arith, length-append}
use Rattle.dap_server.proofs.bodies.all_rows.Goals as goal

pub loop-preserved : goal.loop-preserved
loop-preserved c = omega (arith, ap length c.in_ok-push.ensures.ok, length-append c.loop.rows (true ∷ []), c.loop.invariant)
