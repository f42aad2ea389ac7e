use Rattle.std.proofs.Common.{◌++◌, [], length, ap, sym, ◌∙◌}
use Rattle.std.specs.Option.{option_map_or}
use Rattle.dap_outside.proofs.Passing.{passes_kept}
use Rattle.std.proofs.lemmas.Option.{slice_get_past}
use Rattle.std.proofs.Common.{append-nil}
use Rattle.xdr_decode.proofs.Lines.{past_all}
use Rattle.xdr_decode.proofs.line.put_column.Goals as goal

pub returns-in-None-clause-puts : goal.returns-in-None-clause-puts
returns-in-None-clause-puts g c =
    let none = slice_get_past c.args.columns.now c.args.at (past_all c.args.at (length c.args.columns.now) c.in-None.ensures.lookup.2) in
    passes_kept _ _ _ _ (sym (ap (λ l. c.args.buffer.now.bytes.items ++ l) (ap (λ o. option_map_or (λ x. x.name) o []) none) ∙ append-nil _))
