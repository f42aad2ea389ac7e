use Rattle.std.proofs.Common.{[], arith, ◌∙◌, sym}
use Rattle.std.proofs.lemmas.List.{take_all}
use Rattle.dap_client.proofs.text_stage.TextStage.new.Goals as goal

pub returns : goal.returns
returns c form text = (c.new.ensures, c.new-2.ensures.items ∙ sym (take_all 65536 [] (omega arith)), text)
