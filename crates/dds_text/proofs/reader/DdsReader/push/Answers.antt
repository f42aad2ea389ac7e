use Rattle.dds_text.specs.After.{start_of}
use Rattle.dds_text.proofs.Said.{of_each, is_done, is_bad, is_more}
use Rattle.dds_text.proofs.reader.DdsReader.push.Goals as goal

pub returns-clause-ended : goal.returns-clause-ended
returns-clause-ended c = λ bytes n d stands done.
    of_each c.advance.result _ _ (is_done (start_of c.args.self.now) c.advance.new.self bytes c.args.piece.now n d done) (c.advance.ensures.answers bytes stands)

pub returns-clause-refused : goal.returns-clause-refused
returns-clause-refused c = λ bytes place stands bad.
    of_each c.advance.result _ _ (is_bad (start_of c.args.self.now) c.advance.new.self bytes c.args.piece.now place bad) (c.advance.ensures.answers bytes stands)

pub returns-clause-unfinished : goal.returns-clause-unfinished
returns-clause-unfinished c = λ bytes stands goes.
    of_each c.advance.result _ _ (is_more (start_of c.args.self.now) c.advance.new.self bytes c.args.piece.now goes) (c.advance.ensures.answers bytes stands)
