use Rattle.dap_errors.proofs.Single as single
use Rattle.dap_errors.proofs.laws.one_reading.Goals as goal

pub returns : goal.returns
returns c = record {
  one_object = single.one_object;
  one_place = single.one_place;
  object_not_bad = single.object_no_bad;
  object_not_cut = single.object_no_cut;
  bad_not_cut = single.bad_no_cut;
}
