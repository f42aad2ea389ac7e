use Rattle.std.proofs.Common.{◌≡◌, [], get_or, true, false, sym, ap, ◌∙◌, append-nil}
use Rattle.dap_outside.proofs.Passing.{passes_as, passes_kept, puts_as}
use Rattle.xdr_encode.proofs.Choosing.{row_is_sent, row_unsent}
use Rattle.xdr_encode.proofs.table_rows.put_kept.Goals as goal

pub returns-then-is_set-clause-puts : goal.returns-then-is_set-clause-puts
returns-then-is_set-clause-puts g c =
    let set : get_or c.args.rows.now.mask c.args.row false ≡ true = ap (λ fs. get_or fs c.args.row false) (sym c.items.ensures) ∙ sym c.is_set.ensures ∙ c.if-is_set.true in
    puts_as c.put_row.result _ _ _ _ _ _ (row_is_sent c.args.rows.now c.args.row set) c.put_row.ensures.puts

pub returns-else-is_set-clause-puts : goal.returns-else-is_set-clause-puts
returns-else-is_set-clause-puts g c =
    let set : get_or c.args.rows.now.mask c.args.row false ≡ false = ap (λ fs. get_or fs c.args.row false) (sym c.items.ensures) ∙ sym c.is_set.ensures ∙ c.if-is_set.false in
    passes_as _ _ _ _ [] _ (sym (row_unsent c.args.rows.now c.args.row set)) (passes_kept _ _ _ [] (sym (append-nil c.args.buffer.now.bytes.items)))
