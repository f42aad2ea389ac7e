use Rattle.std.proofs.Common.{arith, subst, sym}
use Rattle.dap_outside.specs.Files.{Reads}
use Rattle.dap_server.proofs.Fronts as fronts
use Rattle.dap_server.proofs.front.open_netcdf.Goals as goal

pub returns-in-Ok-Some-clause-header : goal.returns-in-Ok-Some-clause-header
returns-in-Ok-Some-clause-header g c =
    let (reads, len) = c.in-Ok-Some.ensures.bytes in
    let content = g.S.Shelf.content c.args.shelf.now c.args.file.now in
    let v = c.read_header_on.new.held.items in
    let f = fronts.found content c.size-size.result v c.size-size.ensures.told (subst (λ o. Reads o 0 v) c.fronts.invariant.content reads) (omega (arith, len, c.next_len-len.ensures, c.min-most.ensures)) in
    fronts.opened content _ c.size-size.result v c.in-Ok-Some.header (sym c.size-size.ensures.size) f (rw c.in-Ok-Some.field-0-is at c.in-Ok-Some.ensures.header)

pub returns-in-Err-clause-refused : goal.returns-in-Err-clause-refused
returns-in-Err-clause-refused g c =
    fronts.refused_as (g.S.Shelf.content c.fronts.shelf c.fronts.file) (g.S.Shelf.content c.args.shelf.now c.args.file.now) c.size-size.result c.read_header_on.new.held.items c.in-Err.stop
    c.fronts.invariant.content c.size-size.ensures.told c.in-Err.ensures.refused
