use Rattle.std.specs.Io.KnownBytes.{Keeps}
use Rattle.dap_host.proofs.tcp_link.write_again.Given as goal

abbrev pub invariant-loop : goal.invariant-loop
invariant-loop g l = Keeps (g.T.Write.contents l.fn.to) (g.T.Write.contents l.to)
