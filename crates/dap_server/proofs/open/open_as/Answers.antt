use Rattle.std.proofs.Common.{rules, arith, Err}
use Rattle.dap_server.proofs.Lying as lying
use Rattle.dap_server.specs.inner.Joining.{MayOpen}
use Rattle.dap_server.specs.inner.Opening.{WhereRefused, form_view}
use Rattle.dap_server.proofs.open.open_as.Goals as goal

pub returns-in_err-file-clause-refused : goal.returns-in_err-file-clause-refused
returns-in_err-file-clause-refused g c =
    let stop : WhereRefused (λ cause. MayOpen (g.S.Shelf.files c.args.shelf.now) c.args.name.now (Err cause)) c.in_err-file.field-0.0 =
    lying.missing_stop _ c.args.name.now c.in_err-file.field-0.0 c.in_err-file.ensures.refused in
    search (rules, stop)

pub returns-in_err-opened-clause-refused : goal.returns-in_err-opened-clause-refused
returns-in_err-opened-clause-refused g c =
    let stop : WhereRefused (λ cause. MayOpen (g.S.Shelf.files c.args.shelf.now) c.args.name.now (Err cause)) c.in_err-opened.field-0.0 =
    lying.spoiled_stop (g.S.Shelf.files c.args.shelf.now) (g.S.Shelf.files c.find.new.shelf) (g.S.Shelf.name_of c.find.new.shelf) (g.S.Shelf.content c.find.new.shelf) c.args.name.now c.in_ok-file.file (form_view c.args.form)
    c.in_err-opened.field-0.0 c.requires.form c.in_ok-file.ensures.found c.in_ok-file.ensures.files c.in_err-opened.ensures.refused in
    search (rules, stop)

pub returns-clause-opened : goal.returns-clause-opened
returns-clause-opened g c =
    lying.found (g.S.Shelf.files c.args.shelf.now) (g.S.Shelf.name_of c.find.new.shelf) (g.S.Shelf.content c.find.new.shelf) c.args.name.now c.in_ok-file.file
    (g.S.Shelf.size_of c.find.new.shelf c.in_ok-file.file) _ _ c.in_ok-opened.opened c.in_ok-file.ensures.found c.in_ok-opened.ensures.opened
    c.in_ok-opened.ensures.content c.in_ok-opened.ensures.sizes

pub returns-in_err-opened-clause-asked : goal.returns-in_err-opened-clause-asked
returns-in_err-opened-clause-asked g c =
    let first = lying.first_read (g.S.Shelf.files c.args.shelf.now) (g.S.Shelf.name_of c.find.new.shelf) (g.S.Shelf.content c.find.new.shelf) c.args.name.now c.in_ok-file.file
    (g.S.Shelf.size_of c.find.new.shelf c.in_ok-file.file) c.requires.no_list c.in_ok-file.ensures.found c.in_err-opened.ensures.told in
    omega (arith, first, c.in_err-opened.ensures.asked, c.in_ok-file.ensures.asked)

pub returns-clause-asked : goal.returns-clause-asked
returns-clause-asked g c =
    let first = lying.first_read (g.S.Shelf.files c.args.shelf.now) (g.S.Shelf.name_of c.find.new.shelf) (g.S.Shelf.content c.find.new.shelf) c.args.name.now c.in_ok-file.file
    (g.S.Shelf.size_of c.find.new.shelf c.in_ok-file.file) c.requires.no_list c.in_ok-file.ensures.found c.in_ok-opened.ensures.told in
    omega (arith, first, c.in_ok-opened.ensures.asked, c.in_ok-file.ensures.asked)
