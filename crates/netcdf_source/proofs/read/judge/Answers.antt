use Rattle.std.proofs.Common.{◌≡◌, ◌∙◌, sym, ap, arith, refl, inr, Some, None, Err}
use Rattle.netcdf_source.specs.inner.Answering.{refusal_of, judgement, verdict}
use Rattle.netcdf_source.specs.Parts.{past_end}
use Rattle.netcdf_source.specs.inner.Reading.{contents_at}
use Rattle.netcdf_source.proofs.Good.{read_sound}
use Rattle.netcdf_source.proofs.Records.{sound_sizes, sound_shares}
use Rattle.netcdf_source.proofs.read.judge.Goals as goal

pub record_size-step-requires-clause-sizes : goal.record_size-step-requires-clause-sizes
record_size-step-requires-clause-sizes c = rw (c.items-in-Ok.ensures, c.items.ensures) (sound_sizes c.in-Ok.contents (read_sound c.args.version c.args.body.now c.in-Ok.contents c.in-Ok.field-0-1.now (λ i. omega (arith, c.type_inv.body i)) c.requires.body c.in-Ok.ensures))

pub record_size-step-requires-clause-count : goal.record_size-step-requires-clause-count
record_size-step-requires-clause-count c = rw c.items-in-Ok.ensures ((read_sound c.args.version c.args.body.now c.in-Ok.contents c.in-Ok.field-0-1.now (λ i. omega (arith, c.type_inv.body i)) c.requires.body c.in-Ok.ensures).count)

pub record_size-step-requires-clause-sum : goal.record_size-step-requires-clause-sum
record_size-step-requires-clause-sum c = rw (c.items-in-Ok.ensures, c.items.ensures) (sound_shares c.in-Ok.contents (read_sound c.args.version c.args.body.now c.in-Ok.contents c.in-Ok.field-0-1.now (λ i. omega (arith, c.type_inv.body i)) c.requires.body c.in-Ok.ensures))

pub past_end-requires-clause-sound : goal.past_end-requires-clause-sound
past_end-requires-clause-sound c = read_sound c.args.version c.args.body.now c.in-Ok.contents c.in-Ok.field-0-1.now (λ i. omega (arith, c.type_inv.body i)) c.requires.body c.in-Ok.ensures

pub returns-in-Err-Failed-clause-verdict : goal.returns-in-Err-Failed-clause-verdict
unfolding verdict
returns-in-Err-Failed-clause-verdict c =
    let read : contents_at c.args.version c.args.body.now ≡ Err c.in-Err-Failed.failure = rw c.in-Err-Failed.field-0-is at c.in-Err-Failed.ensures in
    let refused : c.refusal.result ≡ refusal_of c.in-Err-Failed.failure c.args.whole c.args.file_len = rw c.in-Err-Failed.field-0-is at c.refusal.ensures in
    inr (ap (λ r. judgement r c.args.whole c.args.file_len) read ∙ ap Err (sym refused))

pub returns-in-Some-clause-verdict : goal.returns-in-Some-clause-verdict
unfolding verdict
returns-in-Some-clause-verdict c =
    let past : past_end c.in-Ok.contents c.args.file_len ≡ Some c.in-Some.var = sym c.past_end.ensures ∙ c.in-Some.is in
    inr (rw (c.in-Ok.ensures, past) refl)

pub new-requires-clause-sound : goal.new-requires-clause-sound
new-requires-clause-sound c = read_sound c.args.version c.args.body.now c.in-Ok.contents c.in-Ok.field-0-1.now (λ i. omega (arith, c.type_inv.body i)) c.requires.body c.in-Ok.ensures

pub returns-in_ok-new-in-None-clause-verdict : goal.returns-in_ok-new-in-None-clause-verdict
unfolding verdict
returns-in_ok-new-in-None-clause-verdict c =
    let past : past_end c.in-Ok.contents c.args.file_len ≡ None = sym c.past_end.ensures ∙ c.in-None.is in
    rw (c.in-Ok.ensures, past, c.in_ok-new-in-None.ensures.contents) refl
