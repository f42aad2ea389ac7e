use Rattle.std.proofs.Common.{◌≡◌, [], get_or, true, false, sym, ap, ◌∙◌, append-nil}
use Rattle.dap_outside.proofs.Passing.{passes_as, passes_kept, puts_as}
use Rattle.xdr_encode.proofs.Choosing.{cell_is_sent, cell_unsent}
use Rattle.xdr_encode.proofs.Typing.{typed_at}
use Rattle.xdr_encode.proofs.table_rows.put_chosen.Goals as goal

pub put_cell-requires : goal.put_cell-requires
put_cell-requires g c = typed_at c.args.rows.now.table.columns c.args.column _ c.requires.column c.cell.ensures.fits

pub returns-then-is_set-clause-puts : goal.returns-then-is_set-clause-puts
returns-then-is_set-clause-puts g c =
    let set : get_or c.args.rows.now.columns c.args.column false ≡ true = ap (λ fs. get_or fs c.args.column false) (sym c.items.ensures) ∙ sym c.is_set.ensures ∙ c.if-is_set.true in
    puts_as c.put_cell.result _ _ _ _ _ _ (cell_is_sent c.args.rows.now c.args.row c.args.column _ set c.cell.ensures.value) c.put_cell.ensures.puts

pub returns-else-is_set-clause-puts : goal.returns-else-is_set-clause-puts
returns-else-is_set-clause-puts g c =
    let set : get_or c.args.rows.now.columns c.args.column false ≡ false = ap (λ fs. get_or fs c.args.column false) (sym c.items.ensures) ∙ sym c.is_set.ensures ∙ c.if-is_set.false in
    passes_as _ _ _ _ [] _ (sym (cell_unsent c.args.rows.now c.args.row c.args.column set)) (passes_kept _ _ _ [] (sym (append-nil c.args.buffer.now.bytes.items)))
