use Rattle.std.proofs.Common.{ap, sym, ◌∙◌, ◌++◌, drop}
use Rattle.std.specs.List.{flat_map}
use Rattle.dap_model.specs.Shown.{shown_byte}
use Rattle.dap_outside.proofs.Fronts.{on_err}
use Rattle.dap_outside.proofs.Passing.{front_as, front_first}
use Rattle.xdr_decode.proofs.Texts.{shown-parts}
use Rattle.xdr_decode.proofs.value_text.put_front.Goals as goal

pub returns-in_err-put-clause-err : goal.returns-in_err-put-clause-err
returns-in_err-put-clause-err g c =
    let text = c.args.text.now in
    let run = c.plain_run-run.result in
    let whole = shown-parts run text ∙ ap (λ l. l ++ flat_map shown_byte (drop run text)) c.plain_run-run.ensures.same in
    on_err _ _ (front_as _ _ _ _ _ (sym whole) (front_first _ _ _ _ _ c.in_err-put.ensures.puts))
