use Rattle.dap_commands.proofs.Running.{run-visits}
use Rattle.dap_commands.proofs.runs.run_serve.Goals as goal

pub returns : goal.returns
returns g c = record {
  visits = λ port workers requests files are is.
      let (visits, serves, listens) = c.run.ensures.serve port workers requests are in
      let (these, good, whole) = run-visits files _ (λ named bytes there. g.met.S.Shelf.files_are_bytes c.args.shelf.now files named bytes is there) _ requests _ _ visits _ is serves in
      (visits, these, good, whole);
}
