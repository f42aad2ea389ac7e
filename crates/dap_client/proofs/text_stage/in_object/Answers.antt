use Rattle.dap_client.proofs.text_stage.in_object.Goals as goal

pub returns-in-Bad : goal.returns-in-Bad
returns-in-Bad c form bytes s = let (error, bad) = rw c.in-Bad.is at s in c.bad_error.ensures form bytes error bad
