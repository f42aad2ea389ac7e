use Rattle.std.specs.Prelude.{take}
use Rattle.dds_text.specs.Reading.{limit}
use Rattle.dds_text.proofs.BehindEnd.{bad_behind_end}
use Rattle.dds_text.proofs.OneReading as single
use Rattle.dds_text.proofs.laws.one_reading.Goals as goal

pub returns : goal.returns
returns c = record {
  one_end = λ bytes n m one other. single.one_end (take limit bytes) n m one other;
  one_place = single.one_place;
  bad_behind_end = bad_behind_end;
  done_not_bad = single.done_not_bad;
  done_not_unfinished = single.done_not_unfinished;
  bad_not_unfinished = single.bad_not_unfinished;
}
