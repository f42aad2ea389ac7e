use Rattle.std.proofs.Common.{length}
use Rattle.xdr_encode.specs.Bodies.{FitsFile}
use Rattle.encode_tests.proofs.fault_tests.expect_write_faults.Given as goal

abbrev pub invariant-loop-put : goal.invariant-loop-put
invariant-loop-put g l = FitsFile l.body (length l.fn.bytes)
