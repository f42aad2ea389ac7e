use Rattle.std.proofs.Common.{arith, [], refl, sym, ◌∙◌}
use Rattle.std.proofs.lemmas.List.{take_all}
use Rattle.dap_client.proofs.Filling.{nothing_most, nothing_within}
use Rattle.dap_client.proofs.reader.BodyReader.new.Goals as goal

pub returns-clause-stands : goal.returns-clause-stands
returns-clause-stands c = record {
  taken = refl;
  is_stage = (record { is_word = c.new.ensures; kept = c.new-2.ensures.items ∙ sym (take_all 65536 [] (omega arith)); had = (c.new-reader.ensures.stands, c.new-reader.ensures.start) }, refl);
  most = nothing_most;
  within = λ on. nothing_within;
}
