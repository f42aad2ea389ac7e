use Rattle.dap_client.proofs.text_stage.read_text.Goals as goal

pub returns-in-Some : goal.returns-in-Some
returns-in-Some c form bytes long none o = c.in-Some.ensures form _ none (c.in-Ok.ensures form bytes long o)

pub returns-in-None : goal.returns-in-None
returns-in-None c form bytes long none o = (none, c.in-Ok.ensures form bytes long o)
