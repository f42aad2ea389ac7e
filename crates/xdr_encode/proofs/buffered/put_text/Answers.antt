use Rattle.std.proofs.Common.{◌++◌, append_assoc, length}
use Rattle.dap_model.specs.Xdr.{word, zeros}
use Rattle.dap_outside.proofs.Passing.{front_first, front_second, passes_two, puts_failed, puts_two}
use Rattle.xdr_encode.proofs.StringParts.{string-parts}
use Rattle.xdr_encode.proofs.buffered.put_text.Goals as goal

pub returns-in_err-put_word-clause-puts : goal.returns-in_err-put_word-clause-puts
returns-in_err-put_word-clause-puts g c =
    let text = c.args.text.now in
    rw (string-parts text) (puts_failed c.from_residual.result _ _ _ _ _ c.from_residual.ensures.0 (front_first _ _ _ (word (length text)) (text ++ zeros (length text)) c.in_err-put_word.ensures.puts))

pub returns-in_err-put-clause-puts : goal.returns-in_err-put-clause-puts
returns-in_err-put-clause-puts g c =
    let text = c.args.text.now in
    rw (string-parts text) (puts_failed c.from_residual-in_err-put.result _ _ _ _ _ c.from_residual-in_err-put.ensures.0
    (front_second _ _ _ _ _ (word (length text)) (text ++ zeros (length text)) c.in_ok-put_word.ensures.puts (front_first _ _ _ text (zeros (length text)) c.in_err-put.ensures.puts)))

pub returns-clause-puts : goal.returns-clause-puts
returns-clause-puts g c =
    let text = c.args.text.now in
    rw (string-parts text, ← append_assoc (word (length text)) text (zeros (length text)))
    (puts_two c.put-2.result _ _ _ _ _ _ (word (length text) ++ text) (zeros (length text))
    (passes_two _ _ _ _ _ _ (word (length text)) text c.in_ok-put_word.ensures.puts c.in_ok-put.ensures.puts) (rw c.padding.ensures at c.put-2.ensures.puts))
