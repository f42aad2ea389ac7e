use Rattle.std.proofs.Common.{refl, arith, ◌<◌}
use Rattle.text_tokens.specs.Tokens.{word, is_word_byte}
use Rattle.text_tokens.proofs.Lexing.{word_token, word_part, run_moves}
use Rattle.text_tokens.proofs.tokens.word_at.Goals as goal

pub returns-then-behind-text-clause-token : goal.returns-then-behind-text-clause-token
returns-then-behind-text-clause-token c = word_part c.args.signs.now c.args.text.now c.args.place c.word_end-behind.result c.word_end-behind.ensures.run (omega arith)

pub returns-clause-within : goal.returns-clause-within
returns-clause-within c =
    (run_moves (is_word_byte c.args.signs.now) c.args.text.now c.args.place c.word_end-behind.result c.word_end-behind.ensures.run c.word_end-behind.ensures.within.0 c.requires.0 c.requires.1, c.word_end-behind.ensures.within.1)

pub returns-clause-token : goal.returns-clause-token
returns-clause-token c =
    let r = c.word_end-behind.ensures.run in
    let lt : c.args.place < c.word_end-behind.result = run_moves (is_word_byte c.args.signs.now) c.args.text.now c.args.place c.word_end-behind.result r c.word_end-behind.ensures.within.0 c.requires.0 c.requires.1 in
    (refl, word r.0, (r.0, refl), word_token c.args.signs.now c.args.text.now c.args.place c.word_end-behind.result r lt (omega arith))
