use Rattle.std.proofs.Common.{arith, ◌∙◌}
use Rattle.error_word.proofs.FirstWords.{other_letter}
use Rattle.error_word.proofs.first_word.FirstWord.letter.Goals as goal
use Rattle.error_word.proofs.first_word.FirstWord.letter.Goals.{else-self-lt5-via-then-self-lt5+else-to_ascii_lowercase-self, else-self-lt5-via-else-self-lt5}

pub returns-else-self-lt5 : goal.returns-else-self-lt5
returns-else-self-lt5 c bytes on o = other_letter bytes c.args.self.letters c.args.byte o on
    (elim c.else-self-lt5.branch [
      | else-self-lt5-via-then-self-lt5+else-to_ascii_lowercase-self w ↦ λ lt is. w.if-to_ascii_lowercase-self.false (w.to_ascii_lowercase.ensures.value ∙ is)
      | else-self-lt5-via-else-self-lt5 w ↦ λ lt is. absurd (omega (arith, lt, w.if-self-lt5.false))
    ])
