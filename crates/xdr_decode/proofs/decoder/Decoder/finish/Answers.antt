use Rattle.std.proofs.Common.{subst, ap, inl}
use Rattle.std.specs.Prelude.{Err}
use Rattle.xdr_decode.proofs.Pushing.{cut_behind, failed_of, not_failed}
use Rattle.xdr_decode.proofs.Standing.{bad_never, cut_only, ends_only, reads_of, refuses, stopped, stopped_same, stopped_not_open, stopped_not_ended}
use Rattle.xdr_decode.proofs.decoder.Decoder.finish.Goals as goal
use Rattle.xdr_decode.specs.declared.decoder.State.TheVariants as state
use Rattle.xdr_decode.specs.After.{Stands, DecoderStandsAfter, dataset_of, start_of}

pub returns-in-Refused-clause-refused : goal.returns-in-Refused-clause-refused
unfolding DecoderStandsAfter
returns-in-Refused-clause-refused c = λ bytes put stands. inl (stopped c.args.self.now c.in-Refused.bad bytes put (subst (λ s. Stands c.args.self.now s bytes put) c.in-Refused.is stands))

pub returns-in-Refused-clause-is_ok : goal.returns-in-Refused-clause-is_ok
unfolding DecoderStandsAfter
returns-in-Refused-clause-is_ok c = λ bytes put stands ended. absurd (stopped_not_ended c.args.self.now c.in-Refused.bad bytes put _ (subst (λ s. Stands c.args.self.now s bytes put) c.in-Refused.is stands) ended)

pub returns-in-Refused-clause-stays : goal.returns-in-Refused-clause-stays
unfolding DecoderStandsAfter
returns-in-Refused-clause-stays c = λ bytes put fault place stands is. ap Err (stopped_same c.args.self.now c.in-Refused.bad bytes put fault place (subst (λ s. Stands c.args.self.now s bytes put) c.in-Refused.is stands) is)

pub returns-in-Refused-clause-cut : goal.returns-in-Refused-clause-cut
unfolding DecoderStandsAfter
returns-in-Refused-clause-cut c = λ bytes put stands is. absurd (stopped_not_open c.args.self.now c.in-Refused.bad bytes put (subst (λ s. Stands c.args.self.now s bytes put) c.in-Refused.is stands) is)

pub returns-in-Reading : goal.returns-in-Reading
returns-in-Reading c =
    let r = c.args.self.now in
    record {
      ended = λ bytes put stands. c.reached.ensures.ended bytes put (reads_of r bytes put (inl c.in-Reading.is) stands);
      refused = λ bytes put stands. refuses (dataset_of r) (start_of r) bytes c.reached.result (c.reached.ensures.cut bytes put (reads_of r bytes put (inl c.in-Reading.is) stands));
      is_ok = λ bytes put stands is. (ends_only (dataset_of r) (start_of r) bytes c.reached.result (c.reached.ensures.cut bytes put (reads_of r bytes put (inl c.in-Reading.is) stands)) is).1;
      stays = λ bytes put fault place stands is.
          let read = reads_of r bytes put (inl c.in-Reading.is) stands in
          absurd (bad_never (dataset_of r) (start_of r) bytes fault place c.reached.result (c.reached.ensures.ended bytes put read) (c.reached.ensures.cut bytes put read) is);
      cut = λ bytes put stands is.
          let read = reads_of r bytes put (inl c.in-Reading.is) stands in
          cut_only (dataset_of r) (start_of r) bytes c.reached.result (c.reached.ensures.ended bytes put read) (c.reached.ensures.cut bytes put read) is;
      failed = λ failed. absurd (not_failed r state.Reading c.in-Reading.is (λ same. cc) failed);
      behind = λ n failed. absurd (not_failed r state.Reading c.in-Reading.is (λ same. cc) failed.failed);
    }

pub returns-in-Refused-clause-failed : goal.returns-in-Refused-clause-failed
returns-in-Refused-clause-failed c = λ failed. absurd (not_failed c.args.self.now (state.Refused c.in-Refused.bad) c.in-Refused.is (λ same. cc) failed)

pub returns-in-Failed-clause-refused : goal.returns-in-Failed-clause-refused
returns-in-Failed-clause-refused c = λ bytes put stands. absurd (failed_of c.args.self.now bytes put c.in-Failed.is stands)

pub returns-in-Failed-clause-is_ok : goal.returns-in-Failed-clause-is_ok
returns-in-Failed-clause-is_ok c = λ bytes put stands ended. absurd (failed_of c.args.self.now bytes put c.in-Failed.is stands)

pub returns-in-Failed-clause-stays : goal.returns-in-Failed-clause-stays
returns-in-Failed-clause-stays c = λ bytes put fault place stands is. absurd (failed_of c.args.self.now bytes put c.in-Failed.is stands)

pub returns-in-Failed-clause-cut : goal.returns-in-Failed-clause-cut
returns-in-Failed-clause-cut c = λ bytes put stands is. absurd (failed_of c.args.self.now bytes put c.in-Failed.is stands)

pub returns-in-Refused-clause-behind : goal.returns-in-Refused-clause-behind
returns-in-Refused-clause-behind c = λ n failed. absurd (not_failed c.args.self.now (state.Refused c.in-Refused.bad) c.in-Refused.is (λ same. cc) failed.failed)

pub returns-in-Failed-clause-behind : goal.returns-in-Failed-clause-behind
returns-in-Failed-clause-behind c = λ n failed. ap Err (cut_behind c.args.self.now n c.cut.result c.cut.ensures failed)
