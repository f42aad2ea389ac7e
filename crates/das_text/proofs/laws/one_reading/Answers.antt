use Rattle.das_text.proofs.Single as single
use Rattle.das_text.proofs.laws.one_reading.Goals as goal

pub returns : goal.returns
returns c = record {
  one_das = single.one_das;
  one_bad_place = single.one_bad_place;
  one_trailing_place = single.one_trailing_place;
  das_not_bad = single.das_not_bad;
  das_not_trailing = single.das_not_trailing;
  das_not_cut = single.das_not_cut;
  bad_not_trailing = single.bad_not_trailing;
  bad_not_cut = single.bad_not_cut;
  trailing_not_cut = single.trailing_not_cut;
}
