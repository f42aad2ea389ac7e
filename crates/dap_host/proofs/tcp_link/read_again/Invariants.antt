use Rattle.std.proofs.Common.{◌≡◌, length}
use Rattle.std.specs.Io.KnownBytes.{Keeps}
use Rattle.dap_host.proofs.tcp_link.read_again.Given as goal

abbrev pub invariant-loop : goal.invariant-loop
invariant-loop g l =
    record {
      room : length l.into ≡ length l.fn.into;
      bytes : Keeps (g.T.Read.remaining l.fn.from) (g.T.Read.remaining l.from);
    }
