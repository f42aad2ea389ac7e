use Rattle.std.proofs.Common.{◌%◌, ◌++◌, drop, refl, ap, sym, ◌∙◌}
use Rattle.dap_model.specs.Shown.{index_text}
use Rattle.xdr_fields.specs.Wants.{index_texts}
use Rattle.dap_outside.proofs.Passing.{front_as, front_first, passes_kept, puts_as, puts_failed, puts_two}
use Rattle.std.proofs.Common.{append-nil, min}
use Rattle.dap_types.specs.Model.{product}
use Rattle.xdr_decode.proofs.Lines.{indexes_none, indexes_put, sizes_of}
use Rattle.xdr_decode.proofs.Spots.{none_of, some_of}
use Rattle.xdr_decode.proofs.Texts.{part-rest}
use Rattle.xdr_decode.proofs.line.+put_indexes.Goals as goal

pub returns-then-is_empty-clause-puts : goal.returns-then-is_empty-clause-puts
returns-then-is_empty-clause-puts g t c =
    passes_kept _ _ _ _ (sym (ap (λ l. c.args.buffer.now.bytes.items ++ l) (sym (indexes_none c.args.dims.now c.args.number (none_of c.args.dims.now c.if-is_empty.ensures))) ∙ append-nil _))

pub returns-in_err-put_index-clause-puts : goal.returns-in_err-put_index-clause-puts
returns-in_err-put_index-clause-puts g t c =
    let rest = drop 1 c.args.dims.now in
    puts_failed c.from_residual.result _ _ _ _ _ c.from_residual.ensures.0
    (front_as _ _ _ _ _ (indexes_put c.args.dims.now rest c.args.number c.elements-count.result c.index_of.result (c.args.number % c.elements-count.result) (some_of c.args.dims.now c.if-is_empty.ensures) refl c.ranges.number.fits
    (c.elements-count.ensures ∙ ap (λ ds. min (product (sizes_of ds)) 4294967296) (part-rest 1 c.args.dims.now)) c.index_of.ensures refl)
    (front_first _ _ _ (index_text c.index_of.result) (index_texts (sizes_of rest) (c.args.number % c.elements-count.result)) c.in_err-put_index.ensures.puts))

pub returns-clause-puts : goal.returns-clause-puts
returns-clause-puts g t c =
    let rest = drop 1 c.args.dims.now in
    puts_as c.put_indexes.result _ _ _ _ _ _
    (indexes_put c.args.dims.now rest c.args.number c.elements-count.result c.index_of.result c.number_in.result (some_of c.args.dims.now c.if-is_empty.ensures) refl c.ranges.number.fits
    (c.elements-count.ensures ∙ ap (λ ds. min (product (sizes_of ds)) 4294967296) (part-rest 1 c.args.dims.now)) c.index_of.ensures c.number_in.ensures)
    (puts_two c.put_indexes.result _ _ _ _ _ _ (index_text c.index_of.result) (index_texts (sizes_of rest) c.number_in.result) c.in_ok-put_index.ensures.puts
    (rw (part-rest 1 c.args.dims.now) at c.put_indexes.ensures.puts))
