use Rattle.std.proofs.Common.{arith, length, take, drop, ◌-◌, ◌≤◌}
use Rattle.dap_outside.proofs.Transfers.{Consumes-more, part_within}
use Rattle.dap_host.proofs.folder_shelf.read_whole.Goals as goal
use borrow.Rule.Slice.PartMut.{same_len_mid}

pub loop-filled-preserved : goal.loop-filled-preserved
loop-filled-preserved g c =
    let kept = c.loop-filled.invariant in
    let same = c.read.auto.buf in
    let most = c.in-Ok.ensures.bound in
    let part : c.in-Ok.count ≤ length c.read.new.buf = omega (arith, same, most) in
    let rest = length c.loop-filled.into - c.loop-filled.filled in
    let fits : c.in-Ok.count ≤ length (take rest (drop c.loop-filled.filled c.loop-filled.into)) = omega (arith, same, most) in
    record {
      within = omega (arith, same_len_mid c.loop-filled.filled _ c.loop-filled.into c.read.new.buf same, part_within c.loop-filled.filled rest _ c.loop-filled.into kept.within fits);
      bytes = Consumes-more _ _ _ c.loop-filled.into c.read.new.buf c.loop-filled.filled _ c.in-Ok.count kept.within part kept.bytes c.in-Ok.ensures.bytes.0;
    }
