use Rattle.std.proofs.Common.{refl, ◌++◌}
use Rattle.dds_text.specs.After.{DdsStandsAfter}
use Rattle.dds_text.proofs.Pushed.{bad_piece}
use Rattle.dds_text.proofs.reader.DdsReader.refuse.Goals as goal

pub returns-clause-answers : goal.returns-clause-answers
unfolding DdsStandsAfter
returns-clause-answers c = λ bytes piece stays. ((c.args.place, refl, bad_piece (bytes ++ piece) c.args.place stays), (c.args.place, refl, stays))
