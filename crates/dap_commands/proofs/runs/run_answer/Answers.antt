use Rattle.dap_commands.proofs.Running.{run-accepted, run-damaged, run-good, run-refused, run-says}
use Rattle.dap_commands.proofs.runs.run_answer.Goals as goal

pub returns-clause-says : goal.returns-clause-says
returns-clause-says g c = λ target workers files are is. run-says _ files target _ _ is (c.run.ensures.answer target workers are) (c.run.ensures.answered target workers are)

pub returns-clause-accepted : goal.returns-clause-accepted
returns-clause-accepted g c = λ target query workers files s k are is asks accepted still quiet had.
    run-accepted target query files s k _ _ (run-says _ files target _ _ is (c.run.ensures.answer target workers are) (c.run.ensures.answered target workers are)) asks accepted (still, quiet, had)

pub returns-clause-refused : goal.returns-clause-refused
returns-clause-refused g c = λ target query workers files s why are is asks first still quiet had.
    run-refused target query files s why _ _ (run-says _ files target _ _ is (c.run.ensures.answer target workers are) (c.run.ensures.answered target workers are)) asks first (still, quiet, had)

pub returns-clause-damaged : goal.returns-clause-damaged
returns-clause-damaged g c = λ target name query workers files why are is asks bytes opens still quiet had.
    run-damaged target name query files why _ _ (run-says _ files target _ _ is (c.run.ensures.answer target workers are) (c.run.ensures.answered target workers are)) asks bytes opens (still, quiet, had)

pub returns-clause-good : goal.returns-clause-good
returns-clause-good g c = λ target name query workers files are is asks complete.
    run-good target name query files _ _ (λ named bytes there. g.met.S.Shelf.files_are_bytes c.args.shelf.now files named bytes is there)
    (run-says _ files target _ _ is (c.run.ensures.answer target workers are) (c.run.ensures.answered target workers are)) asks complete
