use Rattle.std.proofs.Common.{[], refl}
use Rattle.dap_commands.proofs.answer.put_body.Goals as goal

pub returns-in-ShelfFault-clause-alone : goal.returns-in-ShelfFault-clause-alone
returns-in-ShelfFault-clause-alone g c = λ alone. absurd (((c.in-ShelfFault.ensures.alone alone).1 []).1 refl)

pub returns-clause-alone : goal.returns-clause-alone
returns-clause-alone g c = λ alone. ((λ same. cc same), λ bytes. ((c.in-WriteFault.ensures.alone alone).1 bytes).0)
