use Rattle.std.proofs.Common.{◌∷◌, ◌++◌, [], codes, drop, slice_get, ap, sym, ◌∙◌}
use Rattle.std.specs.Option.{option_map_or}
use Rattle.dap_outside.proofs.Passing.{front_as, front_first, passes_kept, puts_as, puts_failed, puts_two}
use Rattle.xdr_decode.specs.inner.Lines.{array_text, cell_text, path_text}
use Rattle.std.proofs.Common.{append-nil, get_or, length-drop, arith}
use Rattle.dap_types.proofs.Views.{view-Base, view-Array, view-Structure, view-Grid, view-Sequence}
use Rattle.dap_types.specs.Model.{scalar, array, structure, grid, sequence}
use Rattle.dap_types.specs.View.{member_view, members_view}
use Rattle.xdr_decode.proofs.Lines.{path_here, path_past, text_array, text_maps, text_parts, text_rows, text_scalar, text_short_maps, text_short_parts}
use Rattle.xdr_decode.proofs.Spots.{some_of}
use Rattle.xdr_decode.proofs.Texts.{part-rest}
use Rattle.xdr_decode.proofs.line.+put_path.Goals as goal

pub returns-then-at-decls-clause-puts : goal.returns-then-at-decls-clause-puts
returns-then-at-decls-clause-puts g t c =
    passes_kept _ _ _ _ (sym (ap (λ l. c.args.buffer.now.bytes.items ++ l) (sym (path_past c.args.path.now c.args.decls.now c.args.stage (some_of c.args.path.now c.if-is_empty.ensures) c.if-at-decls.true)) ∙ append-nil _))

pub returns-then-path-lt2-clause-puts : goal.returns-then-path-lt2-clause-puts
returns-then-path-lt2-clause-puts g t c =
    passes_kept _ _ _ _ (sym (ap (λ l. c.args.buffer.now.bytes.items ++ l) (sym (text_short_parts c.args.path.now c.args.stage c.in-Structure.name (members_view c.in-Structure.parts) c.if-path-lt2.true ∙ (path_here c.args.path.now c.args.decls.now c.index-decls-at.result (structure c.in-Structure.name (members_view c.in-Structure.parts)) c.args.stage (some_of c.args.path.now c.if-is_empty.ensures) c.if-at-decls.false c.index-decls-at.is (ap member_view c.in-Structure.is ∙ view-Structure c.in-Structure.name c.in-Structure.parts)))) ∙ append-nil _))

pub returns-then-path-lt2-2-clause-puts : goal.returns-then-path-lt2-2-clause-puts
returns-then-path-lt2-2-clause-puts g t c =
    passes_kept _ _ _ _ (sym (ap (λ l. c.args.buffer.now.bytes.items ++ l) (sym (text_short_maps c.args.path.now c.args.stage c.in-Grid.name c.in-Grid.array c.in-Grid.maps c.if-path-lt2-2.true ∙ (path_here c.args.path.now c.args.decls.now c.index-decls-at.result (grid c.in-Grid.name c.in-Grid.array c.in-Grid.maps) c.args.stage (some_of c.args.path.now c.if-is_empty.ensures) c.if-at-decls.false c.index-decls-at.is (ap member_view c.in-Grid.is ∙ view-Grid c.in-Grid.name c.in-Grid.array c.in-Grid.maps)))) ∙ append-nil _))

pub returns-in_err-put_above-in-Structure-clause-puts : goal.returns-in_err-put_above-in-Structure-clause-puts
returns-in_err-put_above-in-Structure-clause-puts g t c =
    puts_failed c.from_residual.result _ _ _ _ _ c.from_residual.ensures.0
    (front_as _ _ _ _ _ (text_parts (drop 1 c.args.path.now) c.args.stage c.in-Structure.name (members_view c.in-Structure.parts) (omega (arith, length-drop 1 c.args.path.now, c.if-path-lt2.false)) ∙ (path_here c.args.path.now c.args.decls.now c.index-decls-at.result (structure c.in-Structure.name (members_view c.in-Structure.parts)) c.args.stage (some_of c.args.path.now c.if-is_empty.ensures) c.if-at-decls.false c.index-decls-at.is (ap member_view c.in-Structure.is ∙ view-Structure c.in-Structure.name c.in-Structure.parts))) (front_first _ _ _ (c.in-Structure.name ++ codes ".") (path_text (members_view c.in-Structure.parts) (drop 1 c.args.path.now) c.args.stage) c.in_err-put_above-in-Structure.ensures.puts))

pub returns-in_err-put_above-in-Grid-clause-puts : goal.returns-in_err-put_above-in-Grid-clause-puts
returns-in_err-put_above-in-Grid-clause-puts g t c =
    puts_failed c.from_residual-in_err-put_above-in-Grid.result _ _ _ _ _ c.from_residual-in_err-put_above-in-Grid.ensures.0
    (front_as _ _ _ _ _ (text_maps c.args.path.now c.args.stage c.in-Grid.name c.in-Grid.array c.in-Grid.maps c.if-path-lt2-2.false ∙ (path_here c.args.path.now c.args.decls.now c.index-decls-at.result (grid c.in-Grid.name c.in-Grid.array c.in-Grid.maps) c.args.stage (some_of c.args.path.now c.if-is_empty.ensures) c.if-at-decls.false c.index-decls-at.is (ap member_view c.in-Grid.is ∙ view-Grid c.in-Grid.name c.in-Grid.array c.in-Grid.maps))) (front_first _ _ _ (c.in-Grid.name ++ codes ".") (option_map_or (array_text c.args.stage) (slice_get (c.in-Grid.array ∷ c.in-Grid.maps) (get_or c.args.path.now 1 0)) []) c.in_err-put_above-in-Grid.ensures.puts))

pub returns-in_err-put-in-Sequence-clause-puts : goal.returns-in_err-put-in-Sequence-clause-puts
returns-in_err-put-in-Sequence-clause-puts g t c =
    puts_failed c.from_residual-in_err-put-in-Sequence.result _ _ _ _ _ c.from_residual-in_err-put-in-Sequence.ensures.0
    (front_as _ _ _ _ _ (text_rows (drop 1 c.args.path.now) c.args.stage c.in-Sequence.name c.in-Sequence.columns ∙ (path_here c.args.path.now c.args.decls.now c.index-decls-at.result (sequence c.in-Sequence.name c.in-Sequence.columns) c.args.stage (some_of c.args.path.now c.if-is_empty.ensures) c.if-at-decls.false c.index-decls-at.is (ap member_view c.in-Sequence.is ∙ view-Sequence c.in-Sequence.name c.in-Sequence.columns))) (front_first _ _ _ c.in-Sequence.name (cell_text c.in-Sequence.columns c.args.stage) (rw c.bytes-in-Sequence.ensures at c.in_err-put-in-Sequence.ensures.puts)))

pub returns-in-Base-clause-puts : goal.returns-in-Base-clause-puts
returns-in-Base-clause-puts g t c =
    puts_as c.put.result _ _ _ _ _ _ (c.bytes.ensures ∙ text_scalar (drop 1 c.args.path.now) c.args.stage c.in-Base.column ∙ (path_here c.args.path.now c.args.decls.now c.index-decls-at.result (scalar c.in-Base.column) c.args.stage (some_of c.args.path.now c.if-is_empty.ensures) c.if-at-decls.false c.index-decls-at.is (ap member_view c.in-Base.is ∙ view-Base c.in-Base.column))) c.put.ensures.puts

pub returns-in-Array-clause-puts : goal.returns-in-Array-clause-puts
returns-in-Array-clause-puts g t c =
    puts_as c.put_element.result _ _ _ _ _ _ (text_array (drop 1 c.args.path.now) c.args.stage c.in-Array.decl ∙ (path_here c.args.path.now c.args.decls.now c.index-decls-at.result (array c.in-Array.decl) c.args.stage (some_of c.args.path.now c.if-is_empty.ensures) c.if-at-decls.false c.index-decls-at.is (ap member_view c.in-Array.is ∙ view-Array c.in-Array.decl))) c.put_element.ensures.puts

pub returns-in_ok-put_above-in-Structure-clause-puts : goal.returns-in_ok-put_above-in-Structure-clause-puts
returns-in_ok-put_above-in-Structure-clause-puts g t c =
    puts_as c.put_path.result _ _ _ _ _ _ (text_parts (drop 1 c.args.path.now) c.args.stage c.in-Structure.name (members_view c.in-Structure.parts) (omega (arith, length-drop 1 c.args.path.now, c.if-path-lt2.false)) ∙ (path_here c.args.path.now c.args.decls.now c.index-decls-at.result (structure c.in-Structure.name (members_view c.in-Structure.parts)) c.args.stage (some_of c.args.path.now c.if-is_empty.ensures) c.if-at-decls.false c.index-decls-at.is (ap member_view c.in-Structure.is ∙ view-Structure c.in-Structure.name c.in-Structure.parts))) (puts_two c.put_path.result _ _ _ _ _ _ (c.in-Structure.name ++ codes ".") (path_text (members_view c.in-Structure.parts) (drop 1 c.args.path.now) c.args.stage) c.in_ok-put_above-in-Structure.ensures.puts
    (rw (part-rest 1 c.args.path.now) at (rw c.items.ensures at c.put_path.ensures.puts)))

pub returns-in_ok-put_above-in-Grid-clause-puts : goal.returns-in_ok-put_above-in-Grid-clause-puts
returns-in_ok-put_above-in-Grid-clause-puts g t c =
    puts_as c.put_map.result _ _ _ _ _ _ (text_maps c.args.path.now c.args.stage c.in-Grid.name c.in-Grid.array c.in-Grid.maps c.if-path-lt2-2.false ∙ (path_here c.args.path.now c.args.decls.now c.index-decls-at.result (grid c.in-Grid.name c.in-Grid.array c.in-Grid.maps) c.args.stage (some_of c.args.path.now c.if-is_empty.ensures) c.if-at-decls.false c.index-decls-at.is (ap member_view c.in-Grid.is ∙ view-Grid c.in-Grid.name c.in-Grid.array c.in-Grid.maps))) (puts_two c.put_map.result _ _ _ _ _ _ (c.in-Grid.name ++ codes ".") (option_map_or (array_text c.args.stage) (slice_get (c.in-Grid.array ∷ c.in-Grid.maps) (get_or c.args.path.now 1 0)) []) c.in_ok-put_above-in-Grid.ensures.puts (rw c.items-in-Grid.ensures at c.put_map.ensures.puts))

pub returns-in_ok-put-in-Sequence-clause-puts : goal.returns-in_ok-put-in-Sequence-clause-puts
returns-in_ok-put-in-Sequence-clause-puts g t c =
    puts_as c.put_cell.result _ _ _ _ _ _ (text_rows (drop 1 c.args.path.now) c.args.stage c.in-Sequence.name c.in-Sequence.columns ∙ (path_here c.args.path.now c.args.decls.now c.index-decls-at.result (sequence c.in-Sequence.name c.in-Sequence.columns) c.args.stage (some_of c.args.path.now c.if-is_empty.ensures) c.if-at-decls.false c.index-decls-at.is (ap member_view c.in-Sequence.is ∙ view-Sequence c.in-Sequence.name c.in-Sequence.columns))) (puts_two c.put_cell.result _ _ _ _ _ _ c.in-Sequence.name (cell_text c.in-Sequence.columns c.args.stage) (rw c.bytes-in-Sequence.ensures at c.in_ok-put-in-Sequence.ensures.puts) (rw c.items-in-Sequence.ensures at c.put_cell.ensures.puts))
