use Rattle.dap_model.specs.Xdr.{word}
use Rattle.dap_outside.proofs.Passing.{front_first, puts_failed, puts_two}
use Rattle.saved_source.proofs.arrays.put_twice.Goals as goal

pub returns-in_err-put_word-clause-puts : goal.returns-in_err-put_word-clause-puts
returns-in_err-put_word-clause-puts g c =
    puts_failed c.from_residual.result _ _ _ _ _ c.from_residual.ensures.0 (front_first _ _ _ (word c.args.word) (word c.args.word) c.in_err-put_word.ensures.puts)

pub returns-clause-puts : goal.returns-clause-puts
returns-clause-puts g c = puts_two c.put_word-2.result _ _ _ _ _ _ (word c.args.word) (word c.args.word) c.in_ok-put_word.ensures.puts c.put_word-2.ensures.puts
