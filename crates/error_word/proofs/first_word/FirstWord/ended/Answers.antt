use Rattle.error_word.proofs.FirstWords.{ends_other}
use Rattle.error_word.proofs.first_word.FirstWord.ended.Goals as goal

pub returns-else-self-eq5 : goal.returns-else-self-eq5
returns-else-self-eq5 c bytes stop o = ends_other bytes c.args.self.letters c.args.byte o c.if-self-eq5.false stop c.requires
