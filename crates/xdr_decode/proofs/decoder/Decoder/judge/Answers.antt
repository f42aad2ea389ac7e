use Rattle.std.proofs.Common.{◌++◌, arith}
use Rattle.xdr_decode.proofs.Looking.{all_said, said_again, said_on}
use Rattle.xdr_decode.proofs.Pushing.{failed_of, front_bytes, has_failed, not_failed, only_bad, only_ended, only_open, reading_of, refused_again, says_done, says_more, says_refused, where_never}
use Rattle.xdr_decode.proofs.decoder.Decoder.judge.Goals as goal
use Rattle.xdr_decode.specs.After.{dataset_of, start_of}
use Rattle.xdr_decode.specs.declared.decoder.State.TheVariants as state
use Rattle.xdr_decode.specs.declared.decoder.Pushed.TheVariants as pushed

pub returns-in-Refused-clause-refused : goal.returns-in-Refused-clause-refused
returns-in-Refused-clause-refused c = λ bytes put stands. refused_again c.args.self.now c.in-Refused.bad bytes put c.args.piece.now c.in-Refused.is stands

pub returns-in-Refused-clause-ended : goal.returns-in-Refused-clause-ended
returns-in-Refused-clause-ended c = λ bytes put n stands is.
    let r = c.args.self.now in
    let bad = c.in-Refused.bad in
    let piece = c.args.piece.now in
    only_ended (dataset_of r) (start_of r) piece bytes n (pushed.Refused bad) tt (refused_again r bad bytes put piece c.in-Refused.is stands) tt is

pub returns-in-Refused-clause-bad : goal.returns-in-Refused-clause-bad
returns-in-Refused-clause-bad c = λ bytes put fault place stands is.
    let r = c.args.self.now in
    let bad = c.in-Refused.bad in
    let piece = c.args.piece.now in
    only_bad (dataset_of r) (start_of r) piece bytes fault place (pushed.Refused bad) tt (refused_again r bad bytes put piece c.in-Refused.is stands) tt is

pub returns-in-Refused-clause-unfinished : goal.returns-in-Refused-clause-unfinished
returns-in-Refused-clause-unfinished c = λ bytes put stands is.
    let r = c.args.self.now in
    let bad = c.in-Refused.bad in
    let piece = c.args.piece.now in
    only_open (dataset_of r) (start_of r) piece bytes (pushed.Refused bad) tt (refused_again r bad bytes put piece c.in-Refused.is stands) is

pub returns-in-Refused-clause-stands : goal.returns-in-Refused-clause-stands
returns-in-Refused-clause-stands c = λ bytes put stands. said_again c.args.self.now c.in-Refused.bad bytes put c.args.piece.now c.in-Refused.is stands

pub returns-in-Refused-clause-failed : goal.returns-in-Refused-clause-failed
returns-in-Refused-clause-failed c = λ failed. absurd (not_failed c.args.self.now (state.Refused c.in-Refused.bad) c.in-Refused.is (λ same. cc) failed)

pub returns-in-Refused-clause-counted : goal.returns-in-Refused-clause-counted
returns-in-Refused-clause-counted c = λ n failed. absurd (not_failed c.args.self.now (state.Refused c.in-Refused.bad) c.in-Refused.is (λ same. cc) failed.failed)

pub returns-in-Failed-clause-ended : goal.returns-in-Failed-clause-ended
returns-in-Failed-clause-ended c = λ bytes put n stands is. absurd (failed_of c.args.self.now bytes put c.in-Failed.is stands)

pub returns-in-Failed-clause-bad : goal.returns-in-Failed-clause-bad
returns-in-Failed-clause-bad c = λ bytes put fault place stands is. absurd (failed_of c.args.self.now bytes put c.in-Failed.is stands)

pub returns-in-Failed-clause-unfinished : goal.returns-in-Failed-clause-unfinished
returns-in-Failed-clause-unfinished c = λ bytes put stands is. absurd (failed_of c.args.self.now bytes put c.in-Failed.is stands)

pub returns-in-Failed-clause-stands : goal.returns-in-Failed-clause-stands
returns-in-Failed-clause-stands c = λ bytes put stands. absurd (failed_of c.args.self.now bytes put c.in-Failed.is stands)

pub returns-in-Failed-clause-cause : goal.returns-in-Failed-clause-cause
returns-in-Failed-clause-cause c = has_failed c.args.self.now c.in-Failed.is

pub returns-in-Failed-clause-fails : goal.returns-in-Failed-clause-fails
returns-in-Failed-clause-fails c = has_failed c.fail.new.self c.fail.ensures.failed

pub returns-in-Failed-clause-counted : goal.returns-in-Failed-clause-counted
returns-in-Failed-clause-counted c = λ n failed.
    record {
      failed = has_failed c.fail.new.self c.fail.ensures.failed;
      place = omega (arith, c.fail.ensures.place, c.fail.ensures.start, c.behind-behind.ensures, c.requires, failed.place);
      small = omega (arith, c.fail.ensures.place, c.behind-behind.ensures, c.requires);
    }

pub returns-in-Reading-clause-done : goal.returns-in-Reading-clause-done
returns-in-Reading-clause-done c = λ bytes put stands.
    let r = c.args.self.now in
    let (reads, all) = reading_of r bytes put c.in-Reading.is stands in
    let p = c.judge_on.ensures.pushes bytes put reads all in
    says_done c.judge_on.new.self (dataset_of r) c.args.piece.now bytes (put ++ p.gained) c.judge_on.result c.judge_on.ensures.dataset p.is_said

pub returns-in-Reading-clause-refused : goal.returns-in-Reading-clause-refused
returns-in-Reading-clause-refused c = λ bytes put stands.
    let r = c.args.self.now in
    let (reads, all) = reading_of r bytes put c.in-Reading.is stands in
    let p = c.judge_on.ensures.pushes bytes put reads all in
    says_refused c.judge_on.new.self (dataset_of r) (start_of r) c.args.piece.now bytes (put ++ p.gained) c.judge_on.result c.judge_on.ensures.dataset c.judge_on.ensures.start p.is_said

pub returns-in-Reading-clause-more : goal.returns-in-Reading-clause-more
returns-in-Reading-clause-more c = λ bytes put stands.
    let r = c.args.self.now in
    let (reads, all) = reading_of r bytes put c.in-Reading.is stands in
    let p = c.judge_on.ensures.pushes bytes put reads all in
    says_more c.judge_on.new.self (dataset_of r) c.args.piece.now bytes (put ++ p.gained) c.judge_on.result c.judge_on.ensures.dataset p.is_said

pub returns-in-Reading-clause-ended : goal.returns-in-Reading-clause-ended
returns-in-Reading-clause-ended c = λ bytes put n stands is.
    let r = c.args.self.now in
    let (reads, all) = reading_of r bytes put c.in-Reading.is stands in
    let p = c.judge_on.ensures.pushes bytes put reads all in
    let q = c.judge_on.new.self in
    let piece = c.args.piece.now in
    said_on c.judge_on.result _ c.judge_on.ensures.answer
    (only_ended (dataset_of r) (start_of r) piece bytes n c.judge_on.result
    (says_done q (dataset_of r) piece bytes (put ++ p.gained) c.judge_on.result c.judge_on.ensures.dataset p.is_said)
    (says_refused q (dataset_of r) (start_of r) piece bytes (put ++ p.gained) c.judge_on.result c.judge_on.ensures.dataset c.judge_on.ensures.start p.is_said)
    (says_more q (dataset_of r) piece bytes (put ++ p.gained) c.judge_on.result c.judge_on.ensures.dataset p.is_said) is)

pub returns-in-Reading-clause-bad : goal.returns-in-Reading-clause-bad
returns-in-Reading-clause-bad c = λ bytes put fault place stands is.
    let r = c.args.self.now in
    let (reads, all) = reading_of r bytes put c.in-Reading.is stands in
    let p = c.judge_on.ensures.pushes bytes put reads all in
    let q = c.judge_on.new.self in
    let piece = c.args.piece.now in
    said_on c.judge_on.result _ c.judge_on.ensures.answer
    (only_bad (dataset_of r) (start_of r) piece bytes fault place c.judge_on.result
    (says_done q (dataset_of r) piece bytes (put ++ p.gained) c.judge_on.result c.judge_on.ensures.dataset p.is_said)
    (says_refused q (dataset_of r) (start_of r) piece bytes (put ++ p.gained) c.judge_on.result c.judge_on.ensures.dataset c.judge_on.ensures.start p.is_said)
    (says_more q (dataset_of r) piece bytes (put ++ p.gained) c.judge_on.result c.judge_on.ensures.dataset p.is_said) is)

pub returns-in-Reading-clause-unfinished : goal.returns-in-Reading-clause-unfinished
returns-in-Reading-clause-unfinished c = λ bytes put stands is.
    let r = c.args.self.now in
    let (reads, all) = reading_of r bytes put c.in-Reading.is stands in
    let p = c.judge_on.ensures.pushes bytes put reads all in
    let q = c.judge_on.new.self in
    let piece = c.args.piece.now in
    said_on c.judge_on.result _ c.judge_on.ensures.answer
    (only_open (dataset_of r) (start_of r) piece bytes c.judge_on.result
    (says_done q (dataset_of r) piece bytes (put ++ p.gained) c.judge_on.result c.judge_on.ensures.dataset p.is_said)
    (says_refused q (dataset_of r) (start_of r) piece bytes (put ++ p.gained) c.judge_on.result c.judge_on.ensures.dataset c.judge_on.ensures.start p.is_said) is)

pub returns-in-Reading-clause-stands : goal.returns-in-Reading-clause-stands
returns-in-Reading-clause-stands c = λ bytes put stands.
    let r = c.args.self.now in
    let (reads, all) = reading_of r bytes put c.in-Reading.is stands in
    all_said c.judge_on.new.self (dataset_of r) c.args.piece.now bytes put c.judge_on.result c.judge_on.ensures.dataset c.judge_on.ensures.answer all (front_bytes c.args.piece.now (λ i lt. (c.type_inv.piece i).fits)) (c.judge_on.ensures.pushes bytes put reads all)

pub returns-in-Reading-clause-cause : goal.returns-in-Reading-clause-cause
returns-in-Reading-clause-cause c = where_never c.judge_on.result _ c.judge_on.ensures.answer

pub returns-in-Reading-clause-failed : goal.returns-in-Reading-clause-failed
returns-in-Reading-clause-failed c = λ failed. absurd (not_failed c.args.self.now state.Reading c.in-Reading.is (λ same. cc) failed)

pub returns-in-Reading-clause-fails : goal.returns-in-Reading-clause-fails
returns-in-Reading-clause-fails c = where_never c.judge_on.result _ c.judge_on.ensures.answer

pub returns-in-Reading-clause-counted : goal.returns-in-Reading-clause-counted
returns-in-Reading-clause-counted c = λ n failed. absurd (not_failed c.args.self.now state.Reading c.in-Reading.is (λ same. cc) failed.failed)
