use Rattle.std.proofs.Common.{◌≡◌, ◌-◌, ap, arith, length, length-drop, ◌∙◌, take, sym}
use Rattle.dap_server.proofs.Fronts as fronts
use Rattle.dap_server.proofs.front.read_on.Goals as goal

pub returns-in-Ok-clause-bytes : goal.returns-in-Ok-clause-bytes
returns-in-Ok-clause-bytes g c =
    let held = c.args.held.now in
    let room = c.deref_mut.result.now in
    let done : c.len-done.result ≡ length held.items = c.len-done.ensures ∙ held.ok.0 in
    let whole : c.resize.new.self.len ≡ c.args.len = c.in_ok-resize.ensures.len in
    let part : length c.read_at.new.into ≡ length room - c.len-done.result = omega (arith, c.read_at.auto.into, length-drop c.len-done.result room) in
    let (read, len) = fronts.tail-read (g.S.Shelf.content c.args.shelf.now c.args.file.now) held.items room c.read_at.new.into _ _ c.len-done.result c.resize.new.self.len
    (ap (take c.len-done.result) c.deref_mut.ensures.value ∙ fronts.resized held.items c.resize.new.self.items c.args.len _ c.len-done.result done c.requires.more c.in_ok-resize.ensures.items)
    (sym done) (omega (arith, part, done, whole, c.requires.more, ap length c.deref_mut.ensures.value)) c.requires.read c.in-Ok.ensures.read in
    (read, len ∙ whole)
