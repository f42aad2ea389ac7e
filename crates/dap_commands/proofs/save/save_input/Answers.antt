use Rattle.dap_commands.proofs.Saved.{no-link, other-read, other-write, read-fault, write-fault}
use Rattle.dap_commands.proofs.save.save_input.Goals as goal

pub returns-clause-says : goal.returns-clause-says
returns-clause-says g c = (c.save.result, c.save.ensures.saves, c.said.ensures.status, c.said.ensures.line)

pub returns-clause-read_fault : goal.returns-clause-read_fault
returns-clause-read_fault g c = read-fault _ c.save.result c.said.result c.said.ensures.status c.save.ensures.read_fault

pub returns-clause-write_fault : goal.returns-clause-write_fault
returns-clause-write_fault g c = write-fault _ c.save.result c.said.result c.said.ensures.status c.save.ensures.write_fault

pub returns-clause-input_kept : goal.returns-clause-input_kept
returns-clause-input_kept g c = λ other. c.save.ensures.kept_reading (other-read c.save.result c.said.result c.said.ensures.status other)

pub returns-clause-out_kept : goal.returns-clause-out_kept
returns-clause-out_kept g c = λ other. c.save.ensures.kept_writing (other-write c.save.result c.said.result c.said.ensures.status other)

pub returns-clause-no_link : goal.returns-clause-no_link
returns-clause-no_link g c = no-link c.save.result c.said.result c.said.ensures.status c.save.ensures.no_link
