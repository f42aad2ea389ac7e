use Rattle.std.proofs.Common.{arith, ◌∙◌, length, ◌≤◌}
use Rattle.dap_outside.proofs.Transfers.{Consumes-more, part_within}
use Rattle.dap_outside.proofs.streams.take_some.Goals as goal
use borrow.Rule.Slice.PartMut.{same_len_mid}

pub loop-taken-preserved : goal.loop-taken-preserved
loop-taken-preserved g c =
    let kept = c.loop-taken.invariant in
    let same = c.take.auto.into in
    let most = c.in_ok-count.ensures.most in
    let part : c.in_ok-count.count ≤ length c.take.new.into = omega (arith, same, most) in
    record {
      within = omega (arith, same_len_mid c.loop-taken.taken _ c.loop-taken.into c.take.new.into same, part_within c.loop-taken.taken _ _ c.loop-taken.into kept.within most);
      whole = c.take.ensures.whole ∙ kept.whole;
      bytes = Consumes-more _ _ _ c.loop-taken.into c.take.new.into c.loop-taken.taken _ c.in_ok-count.count kept.within part kept.bytes c.in_ok-count.ensures.bytes;
      stays = λ e. c.take.ensures.stays (kept.stays e);
      count = c.in_ok-count.ensures.cause.kept ∙ kept.count;
      beside = c.take.ensures.beside ∙ kept.beside;
    }
