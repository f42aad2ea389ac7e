use Rattle.std.proofs.Common.{length, slice_index, sym, ap, ◌∙◌}
use Rattle.slab_fill.proofs.SpotLemmas.{dense-spot, dense-room}
use Rattle.slab_fill.proofs.rows.write_double_words.Goals as goal

pub copy_all-requires : goal.copy_all-requires
copy_all-requires c = record { room = dense-room 8 c.args.at c.args.step (length c.args.out.now) (length c.args.raw.now) c.if-step-eq8.true c.requires.some c.requires.whole c.requires.room }

pub returns-then-step-eq8 : goal.returns-then-step-eq8
returns-then-step-eq8 c = λ k lt. c.copy_all.ensures k lt ∙ ap (λ i. slice_index c.args.raw.now i) (sym (dense-spot 8 c.args.at c.args.step k c.if-step-eq8.true))
