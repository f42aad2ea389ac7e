use Rattle.std.proofs.Common.{Some, ap, sym, ◌∙◌}
use Rattle.dap_outside.proofs.ToldBack.{told-links}
use Rattle.dap_outside.proofs.memory_dial.MemDial.back.Goals as goal

pub returns-clause-told : goal.returns-clause-told
returns-clause-told c =
    let s = c.args.self.now in
    ap Some (told-links s.called.items s.back.items s.beside ∙ sym c.as_slice.ensures.value)
