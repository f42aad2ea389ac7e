use Rattle.std.proofs.Common.{◌++◌, arith, inl, inr}
use Rattle.xdr_decode.proofs.Pushing.{failed_behind, failed_of, front_bytes, has_failed, not_failed, only_bad, only_ended, only_open, reading_of, refused_again, says_done, says_more, says_refused, some_pushed, stands_again, stands_pushed, where_more}
use Rattle.xdr_decode.proofs.decoder.Decoder.push.Goals as goal
use Rattle.xdr_decode.specs.After.{dataset_of, start_of}
use Rattle.xdr_decode.specs.declared.decoder.State.TheVariants as state
use Rattle.xdr_decode.specs.declared.decoder.Pushed.TheVariants as pushed

pub returns-in-Refused-clause-refused : goal.returns-in-Refused-clause-refused
returns-in-Refused-clause-refused g c = λ bytes put stands. refused_again c.args.self.now c.in-Refused.bad bytes put c.args.piece.now c.in-Refused.is stands

pub returns-in-Refused-clause-ended : goal.returns-in-Refused-clause-ended
returns-in-Refused-clause-ended g c = λ bytes put n stands is.
    let r = c.args.self.now in
    let bad = c.in-Refused.bad in
    let piece = c.args.piece.now in
    only_ended (dataset_of r) (start_of r) piece bytes n (pushed.Refused bad) tt (refused_again r bad bytes put piece c.in-Refused.is stands) tt is

pub returns-in-Refused-clause-bad : goal.returns-in-Refused-clause-bad
returns-in-Refused-clause-bad g c = λ bytes put fault place stands is.
    let r = c.args.self.now in
    let bad = c.in-Refused.bad in
    let piece = c.args.piece.now in
    only_bad (dataset_of r) (start_of r) piece bytes fault place (pushed.Refused bad) tt (refused_again r bad bytes put piece c.in-Refused.is stands) tt is

pub returns-in-Refused-clause-unfinished : goal.returns-in-Refused-clause-unfinished
returns-in-Refused-clause-unfinished g c = λ bytes put stands is.
    let r = c.args.self.now in
    let bad = c.in-Refused.bad in
    let piece = c.args.piece.now in
    only_open (dataset_of r) (start_of r) piece bytes (pushed.Refused bad) tt (refused_again r bad bytes put piece c.in-Refused.is stands) is

pub returns-in-Refused-clause-stands : goal.returns-in-Refused-clause-stands
returns-in-Refused-clause-stands g c = λ bytes put stands. stands_again c.args.self.now c.in-Refused.bad bytes put c.args.piece.now _ c.in-Refused.is stands

pub returns-in-Refused-clause-failed : goal.returns-in-Refused-clause-failed
returns-in-Refused-clause-failed g c = λ failed. absurd (not_failed c.args.self.now (state.Refused c.in-Refused.bad) c.in-Refused.is (λ same. cc) failed)

pub returns-in-Refused-clause-counted : goal.returns-in-Refused-clause-counted
returns-in-Refused-clause-counted g c = λ n failed. absurd (not_failed c.args.self.now (state.Refused c.in-Refused.bad) c.in-Refused.is (λ same. cc) failed.failed)

pub returns-in-Failed-clause-fails : goal.returns-in-Failed-clause-fails
returns-in-Failed-clause-fails g c = has_failed c.fail.new.self c.fail.ensures.failed

pub returns-in-Failed-clause-behind : goal.returns-in-Failed-clause-behind
returns-in-Failed-clause-behind g c = λ bytes put stands. absurd (failed_of c.args.self.now bytes put c.in-Failed.is stands)

pub returns-in-Failed-clause-counted : goal.returns-in-Failed-clause-counted
returns-in-Failed-clause-counted g c = λ n failed.
    record {
      failed = has_failed c.fail.new.self c.fail.ensures.failed;
      place = omega (arith, c.fail.ensures.place, c.fail.ensures.start, c.behind-behind.ensures, c.requires, failed.place);
      small = omega (arith, c.fail.ensures.place, c.behind-behind.ensures, c.requires);
    }

pub returns-in-Failed-clause-cause : goal.returns-in-Failed-clause-cause
returns-in-Failed-clause-cause g c = inl (has_failed c.args.self.now c.in-Failed.is)

pub returns-in-Failed-clause-some : goal.returns-in-Failed-clause-some
returns-in-Failed-clause-some g c = λ bytes put stands. absurd (failed_of c.args.self.now bytes put c.in-Failed.is stands)

pub returns-in-Reading-clause-done : goal.returns-in-Reading-clause-done
returns-in-Reading-clause-done g c = λ bytes put stands.
    let r = c.args.self.now in
    let (reads, all) = reading_of r bytes put c.in-Reading.is stands in
    let p = c.go_on.ensures.pushes bytes put reads all in
    says_done c.go_on.new.self (dataset_of r) c.args.piece.now bytes (put ++ p.gained) c.go_on.result c.go_on.ensures.dataset p.is_said

pub returns-in-Reading-clause-refused : goal.returns-in-Reading-clause-refused
returns-in-Reading-clause-refused g c = λ bytes put stands.
    let r = c.args.self.now in
    let (reads, all) = reading_of r bytes put c.in-Reading.is stands in
    let p = c.go_on.ensures.pushes bytes put reads all in
    says_refused c.go_on.new.self (dataset_of r) (start_of r) c.args.piece.now bytes (put ++ p.gained) c.go_on.result c.go_on.ensures.dataset c.go_on.ensures.start p.is_said

pub returns-in-Reading-clause-more : goal.returns-in-Reading-clause-more
returns-in-Reading-clause-more g c = λ bytes put stands.
    let r = c.args.self.now in
    let (reads, all) = reading_of r bytes put c.in-Reading.is stands in
    let p = c.go_on.ensures.pushes bytes put reads all in
    says_more c.go_on.new.self (dataset_of r) c.args.piece.now bytes (put ++ p.gained) c.go_on.result c.go_on.ensures.dataset p.is_said

pub returns-in-Reading-clause-ended : goal.returns-in-Reading-clause-ended
returns-in-Reading-clause-ended g c = λ bytes put n stands is.
    let r = c.args.self.now in
    let (reads, all) = reading_of r bytes put c.in-Reading.is stands in
    let p = c.go_on.ensures.pushes bytes put reads all in
    let q = c.go_on.new.self in
    let piece = c.args.piece.now in
    only_ended (dataset_of r) (start_of r) piece bytes n c.go_on.result
    (says_done q (dataset_of r) piece bytes (put ++ p.gained) c.go_on.result c.go_on.ensures.dataset p.is_said)
    (says_refused q (dataset_of r) (start_of r) piece bytes (put ++ p.gained) c.go_on.result c.go_on.ensures.dataset c.go_on.ensures.start p.is_said)
    (says_more q (dataset_of r) piece bytes (put ++ p.gained) c.go_on.result c.go_on.ensures.dataset p.is_said) is

pub returns-in-Reading-clause-bad : goal.returns-in-Reading-clause-bad
returns-in-Reading-clause-bad g c = λ bytes put fault place stands is.
    let r = c.args.self.now in
    let (reads, all) = reading_of r bytes put c.in-Reading.is stands in
    let p = c.go_on.ensures.pushes bytes put reads all in
    let q = c.go_on.new.self in
    let piece = c.args.piece.now in
    only_bad (dataset_of r) (start_of r) piece bytes fault place c.go_on.result
    (says_done q (dataset_of r) piece bytes (put ++ p.gained) c.go_on.result c.go_on.ensures.dataset p.is_said)
    (says_refused q (dataset_of r) (start_of r) piece bytes (put ++ p.gained) c.go_on.result c.go_on.ensures.dataset c.go_on.ensures.start p.is_said)
    (says_more q (dataset_of r) piece bytes (put ++ p.gained) c.go_on.result c.go_on.ensures.dataset p.is_said) is

pub returns-in-Reading-clause-unfinished : goal.returns-in-Reading-clause-unfinished
returns-in-Reading-clause-unfinished g c = λ bytes put stands is.
    let r = c.args.self.now in
    let (reads, all) = reading_of r bytes put c.in-Reading.is stands in
    let p = c.go_on.ensures.pushes bytes put reads all in
    let q = c.go_on.new.self in
    let piece = c.args.piece.now in
    only_open (dataset_of r) (start_of r) piece bytes c.go_on.result
    (says_done q (dataset_of r) piece bytes (put ++ p.gained) c.go_on.result c.go_on.ensures.dataset p.is_said)
    (says_refused q (dataset_of r) (start_of r) piece bytes (put ++ p.gained) c.go_on.result c.go_on.ensures.dataset c.go_on.ensures.start p.is_said) is

pub returns-in-Reading-clause-stands : goal.returns-in-Reading-clause-stands
returns-in-Reading-clause-stands g c = λ bytes put stands.
    let r = c.args.self.now in
    let (reads, all) = reading_of r bytes put c.in-Reading.is stands in
    stands_pushed c.go_on.new.self (dataset_of r) _ _ c.args.piece.now bytes put c.go_on.result c.go_on.ensures.dataset all (front_bytes c.args.piece.now (λ i lt. (c.type_inv.piece i).fits)) (c.go_on.ensures.pushes bytes put reads all)

pub returns-in-Reading-clause-cause : goal.returns-in-Reading-clause-cause
returns-in-Reading-clause-cause g c = where_more c.go_on.result _ _ (λ rose. inr rose) c.go_on.ensures.cause

pub returns-in-Reading-clause-some : goal.returns-in-Reading-clause-some
returns-in-Reading-clause-some g c = λ bytes put stands.
    let r = c.args.self.now in
    let (reads, all) = reading_of r bytes put c.in-Reading.is stands in
    some_pushed c.go_on.new.self (dataset_of r) _ _ c.args.piece.now bytes put c.go_on.result c.go_on.ensures.dataset (c.go_on.ensures.pushes bytes put reads all)

pub returns-in-Reading-clause-failed : goal.returns-in-Reading-clause-failed
returns-in-Reading-clause-failed g c = λ failed. absurd (not_failed c.args.self.now state.Reading c.in-Reading.is (λ same. cc) failed)

pub returns-in-Reading-clause-behind : goal.returns-in-Reading-clause-behind
returns-in-Reading-clause-behind g c = λ bytes put stands.
    let r = c.args.self.now in
    let (reads, all) = reading_of r bytes put c.in-Reading.is stands in
    failed_behind r c.go_on.new.self bytes put c.args.piece.now c.go_on.result reads (omega (arith, c.requires)) c.go_on.ensures.start c.go_on.ensures.fails c.go_on.ensures.behind

pub returns-in-Reading-clause-counted : goal.returns-in-Reading-clause-counted
returns-in-Reading-clause-counted g c = λ n failed. absurd (not_failed c.args.self.now state.Reading c.in-Reading.is (λ same. cc) failed.failed)
