use Rattle.dap_outside.proofs.ToldBack.{told-more}
use Rattle.dap_outside.proofs.memory_dial.MemDialDial.done.Goals as goal

pub returns-clause-told : goal.returns-clause-told
returns-clause-told c =
    let s = c.args.self.now in
    rw (c.in-Ok.ensures.items, c.in-Ok-push.ensures.items) (told-more s.called.items s.back.items s.last c.args.link s.beside)
