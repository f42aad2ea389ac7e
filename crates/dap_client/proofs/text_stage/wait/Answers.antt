use Rattle.dap_client.proofs.text_stage.wait.Goals as goal

pub returns-in-Ok : goal.returns-in-Ok
returns-in-Ok c form bytes long word kept o = (word, kept, c.in-Ok.ensures form bytes long o)
