use Rattle.std.proofs.Common.{◌≡◌, ◌+◌, ◌∙◌, [], ap, arith, drop, rules, sym}
use Rattle.dap_outside.proofs.Passing.{puts_failed}
use Rattle.dap_outside.specs.Buffered.{Passes, PassesFront, Puts}
use Rattle.dap_model.specs.Rows.{kept}
use Rattle.dap_types.proofs.Views.{members-end, members-here, view-Array, view-Base, view-Grid, view-Sequence, view-Structure}
use Rattle.dap_types.specs.Model.{count, count_all, grid, sequence, structure}
use Rattle.dap_types.specs.View.{member_view, members_view}
use Rattle.dap_types.specs.declared.declarations.Decl.{the_lemmas}
use Rattle.grid_projection.specs.Resolved.{marks_in}
use Rattle.sequence_select.specs.Tests.{tested}
use Rattle.saved_source.proofs.ByKind.{array_puts, array_rest, grid_puts, grid_rest, scalar_puts, scalar_rest, sequence_puts, sequence_rest, structure_puts}
use Rattle.saved_source.proofs.Walking.{members_end, members_failed, members_next}
use Rattle.saved_source.proofs.members.+variables.Goals as goal

pub put_member-returns-in_err-rest-in-Base-clause-puts : goal.put_member-returns-in_err-rest-in-Base-clause-puts
put_member-returns-in_err-rest-in-Base-clause-puts g t c = λ u rest st.
    puts_failed c.from_residual.result _ _ _ _ _ c.from_residual.ensures.0
    (scalar_puts (PassesFront (g.O.Sink.written c.args.out.now) c.args.buffer.now.bytes.items (g.O.Sink.written c.put_marked.new.out)) (λ r. r ≡ r) (marks_in c.args.marks.now) (kept (tested c.args.tests.now)) c.args.number (member_view c.args.decl.now) c.args.bytes.now c.in-Base.column
    (ap member_view c.in-Base.is ∙ view-Base c.in-Base.column) c.in_err-rest-in-Base.ensures.puts u rest st)

pub put_member-returns-in_ok-rest-in-Base-clause-puts : goal.put_member-returns-in_ok-rest-in-Base-clause-puts
put_member-returns-in_ok-rest-in-Base-clause-puts g t c = λ u rest st.
    scalar_puts (Passes (g.O.Sink.written c.args.out.now) c.args.buffer.now.bytes.items (g.O.Sink.written c.put_marked.new.out) c.put_marked.new.buffer.bytes.items) (λ r. r ≡ r) (marks_in c.args.marks.now) (kept (tested c.args.tests.now)) c.args.number (member_view c.args.decl.now) c.args.bytes.now c.in-Base.column
    (ap member_view c.in-Base.is ∙ view-Base c.in-Base.column) c.in_ok-rest-in-Base.ensures.puts u rest st

pub put_member-returns-in_ok-rest-in-Base-clause-rest : goal.put_member-returns-in_ok-rest-in-Base-clause-rest
put_member-returns-in_ok-rest-in-Base-clause-rest g t c = λ u rest st.
    scalar_rest (λ r. r ≡ r) (λ r. c.in_ok-rest-in-Base.rest.now ≡ r) (marks_in c.args.marks.now) (kept (tested c.args.tests.now)) c.args.number (member_view c.args.decl.now) c.args.bytes.now c.in-Base.column
    (ap member_view c.in-Base.is ∙ view-Base c.in-Base.column) c.in_ok-rest-in-Base.ensures.rest u rest st

pub put_member-returns-in_err-rest-in-Array-clause-puts : goal.put_member-returns-in_err-rest-in-Array-clause-puts
put_member-returns-in_err-rest-in-Array-clause-puts g t c = λ u rest st.
    puts_failed c.from_residual-in_err-rest-in-Array.result _ _ _ _ _ c.from_residual-in_err-rest-in-Array.ensures.0
    (array_puts (PassesFront (g.O.Sink.written c.args.out.now) c.args.buffer.now.bytes.items (g.O.Sink.written c.put_leaf.new.out)) (λ r. r ≡ r) (marks_in c.args.marks.now) (kept (tested c.args.tests.now)) c.args.number (member_view c.args.decl.now) c.args.bytes.now c.in-Array.decl
    (ap member_view c.in-Array.is ∙ view-Array c.in-Array.decl) c.in_err-rest-in-Array.ensures.puts u rest st)

pub put_member-returns-in_ok-rest-in-Array-clause-puts : goal.put_member-returns-in_ok-rest-in-Array-clause-puts
put_member-returns-in_ok-rest-in-Array-clause-puts g t c = λ u rest st.
    array_puts (Passes (g.O.Sink.written c.args.out.now) c.args.buffer.now.bytes.items (g.O.Sink.written c.put_leaf.new.out) c.put_leaf.new.buffer.bytes.items) (λ r. r ≡ r) (marks_in c.args.marks.now) (kept (tested c.args.tests.now)) c.args.number (member_view c.args.decl.now) c.args.bytes.now c.in-Array.decl
    (ap member_view c.in-Array.is ∙ view-Array c.in-Array.decl) c.in_ok-rest-in-Array.ensures.puts u rest st

pub put_member-returns-in_ok-rest-in-Array-clause-rest : goal.put_member-returns-in_ok-rest-in-Array-clause-rest
put_member-returns-in_ok-rest-in-Array-clause-rest g t c = λ u rest st.
    array_rest (λ r. r ≡ r) (λ r. c.in_ok-rest-in-Array.rest.now ≡ r) (marks_in c.args.marks.now) (kept (tested c.args.tests.now)) c.args.number (member_view c.args.decl.now) c.args.bytes.now c.in-Array.decl
    (ap member_view c.in-Array.is ∙ view-Array c.in-Array.decl) c.in_ok-rest-in-Array.ensures.rest u rest st

pub put_member-returns-in_err-rest-in-Grid-clause-puts : goal.put_member-returns-in_err-rest-in-Grid-clause-puts
put_member-returns-in_err-rest-in-Grid-clause-puts g t c = λ u rest st.
    puts_failed c.from_residual-in_err-rest-in-Grid.result _ _ _ _ _ c.from_residual-in_err-rest-in-Grid.ensures.0
    (grid_puts (PassesFront (g.O.Sink.written c.args.out.now) c.args.buffer.now.bytes.items (g.O.Sink.written c.put_grid.new.out)) (λ r. r ≡ r) (marks_in c.args.marks.now) (kept (tested c.args.tests.now)) c.args.number (member_view c.args.decl.now) c.args.bytes.now c.in-Grid.field-0 c.in-Grid.own c.items-maps.result.now
    (ap member_view c.in-Grid.is ∙ view-Grid c.in-Grid.field-0 c.in-Grid.own c.in-Grid.maps ∙ ap (λ ds. grid c.in-Grid.field-0 c.in-Grid.own ds) (sym c.items-maps.ensures)) c.in_err-rest-in-Grid.ensures.puts u rest st)

pub put_member-returns-in_ok-rest-in-Grid-clause-puts : goal.put_member-returns-in_ok-rest-in-Grid-clause-puts
put_member-returns-in_ok-rest-in-Grid-clause-puts g t c = λ u rest st.
    grid_puts (Passes (g.O.Sink.written c.args.out.now) c.args.buffer.now.bytes.items (g.O.Sink.written c.put_grid.new.out) c.put_grid.new.buffer.bytes.items) (λ r. r ≡ r) (marks_in c.args.marks.now) (kept (tested c.args.tests.now)) c.args.number (member_view c.args.decl.now) c.args.bytes.now c.in-Grid.field-0 c.in-Grid.own c.items-maps.result.now
    (ap member_view c.in-Grid.is ∙ view-Grid c.in-Grid.field-0 c.in-Grid.own c.in-Grid.maps ∙ ap (λ ds. grid c.in-Grid.field-0 c.in-Grid.own ds) (sym c.items-maps.ensures)) c.in_ok-rest-in-Grid.ensures.puts u rest st

pub put_member-returns-in_ok-rest-in-Grid-clause-rest : goal.put_member-returns-in_ok-rest-in-Grid-clause-rest
put_member-returns-in_ok-rest-in-Grid-clause-rest g t c = λ u rest st.
    grid_rest (λ r. r ≡ r) (λ r. c.in_ok-rest-in-Grid.rest.now ≡ r) (marks_in c.args.marks.now) (kept (tested c.args.tests.now)) c.args.number (member_view c.args.decl.now) c.args.bytes.now c.in-Grid.field-0 c.in-Grid.own c.items-maps.result.now
    (ap member_view c.in-Grid.is ∙ view-Grid c.in-Grid.field-0 c.in-Grid.own c.in-Grid.maps ∙ ap (λ ds. grid c.in-Grid.field-0 c.in-Grid.own ds) (sym c.items-maps.ensures)) c.in_ok-rest-in-Grid.ensures.rest u rest st

pub put_member-returns-in_err-rest-in-Sequence-clause-puts : goal.put_member-returns-in_err-rest-in-Sequence-clause-puts
put_member-returns-in_err-rest-in-Sequence-clause-puts g t c = λ u rest st.
    puts_failed c.from_residual-in_err-rest-in-Sequence.result _ _ _ _ _ c.from_residual-in_err-rest-in-Sequence.ensures.0
    (sequence_puts (PassesFront (g.O.Sink.written c.args.out.now) c.args.buffer.now.bytes.items (g.O.Sink.written c.put_rows.new.out)) (λ r. r ≡ r) (marks_in c.args.marks.now) (kept (tested c.args.tests.now)) c.args.number (member_view c.args.decl.now) c.args.bytes.now c.in-Sequence.field-0 c.items-columns.result.now
    (ap member_view c.in-Sequence.is ∙ view-Sequence c.in-Sequence.field-0 c.in-Sequence.columns ∙ ap (λ ds. sequence c.in-Sequence.field-0 ds) (sym c.items-columns.ensures)) c.in_err-rest-in-Sequence.ensures.puts u rest st)

pub put_member-returns-in_ok-rest-in-Sequence-clause-puts : goal.put_member-returns-in_ok-rest-in-Sequence-clause-puts
put_member-returns-in_ok-rest-in-Sequence-clause-puts g t c = λ u rest st.
    sequence_puts (Passes (g.O.Sink.written c.args.out.now) c.args.buffer.now.bytes.items (g.O.Sink.written c.put_rows.new.out) c.put_rows.new.buffer.bytes.items) (λ r. r ≡ r) (marks_in c.args.marks.now) (kept (tested c.args.tests.now)) c.args.number (member_view c.args.decl.now) c.args.bytes.now c.in-Sequence.field-0 c.items-columns.result.now
    (ap member_view c.in-Sequence.is ∙ view-Sequence c.in-Sequence.field-0 c.in-Sequence.columns ∙ ap (λ ds. sequence c.in-Sequence.field-0 ds) (sym c.items-columns.ensures)) c.in_ok-rest-in-Sequence.ensures.puts u rest st

pub put_member-returns-in_ok-rest-in-Sequence-clause-rest : goal.put_member-returns-in_ok-rest-in-Sequence-clause-rest
put_member-returns-in_ok-rest-in-Sequence-clause-rest g t c = λ u rest st.
    sequence_rest (λ r. r ≡ r) (λ r. c.in_ok-rest-in-Sequence.rest.now ≡ r) (marks_in c.args.marks.now) (kept (tested c.args.tests.now)) c.args.number (member_view c.args.decl.now) c.args.bytes.now c.in-Sequence.field-0 c.items-columns.result.now
    (ap member_view c.in-Sequence.is ∙ view-Sequence c.in-Sequence.field-0 c.in-Sequence.columns ∙ ap (λ ds. sequence c.in-Sequence.field-0 ds) (sym c.items-columns.ensures)) c.in_ok-rest-in-Sequence.ensures.rest u rest st

pub put_member-put_members-requires : goal.put_member-put_members-requires
put_member-put_members-requires g t c κs within =
    let is : member_view c.args.decl.now ≡ structure c.in-Structure.field-0 (members_view c.items.result.now) = ap member_view c.in-Structure.is ∙ view-Structure c.in-Structure.field-0 c.in-Structure.parts ∙ ap (λ ds. structure c.in-Structure.field-0 (members_view ds)) (sym c.items.ensures) in
    let long : count (member_view c.args.decl.now) ≡ count_all (members_view c.items.result.now) + 1 = ap count is in
    (search (rules, the_lemmas), (within, omega (arith, long, c.requires)))

pub put_member-returns-in-Structure-clause-puts : goal.put_member-returns-in-Structure-clause-puts
put_member-returns-in-Structure-clause-puts g t c = λ u rest st.
    structure_puts (Puts (g.O.Sink.written c.args.out.now) c.args.buffer.now.bytes.items (g.O.Sink.written c.put_members.new.out) c.put_members.new.buffer.bytes.items c.put_members.result) (λ r. r ≡ r) (marks_in c.args.marks.now) (kept (tested c.args.tests.now)) c.args.number (member_view c.args.decl.now) c.args.bytes.now c.in-Structure.field-0 (members_view c.items.result.now)
    (ap member_view c.in-Structure.is ∙ view-Structure c.in-Structure.field-0 c.in-Structure.parts ∙ ap (λ ds. structure c.in-Structure.field-0 (members_view ds)) (sym c.items.ensures)) c.put_members.ensures.puts u rest st

pub put_members-returns-in_err-behind-clause-puts : goal.put_members-returns-in_err-behind-clause-puts
put_members-returns-in_err-behind-clause-puts g t c = λ ts rest st.
    let i = c.loop-decl.decl-index in
    let here = members-here c.args.decls.now i c.decl-item.result c.loop-decl-test.true c.decl-item.is in
    puts_failed c.from_residual.result _ _ _ _ _ c.from_residual.ensures.0
    (members_failed _ _ _ _ _ [] (marks_in c.args.marks.now) (kept (tested c.args.tests.now)) c.loop-decl.number (members_view (drop i c.args.decls.now)) (member_view c.decl-item.result) (members_view (drop (i + 1) c.args.decls.now)) c.loop-decl.rest.now rest _ here
    (c.loop-decl.invariant.way ts rest st) c.in_err-behind.ensures.puts)

pub put_members-loop-decl-preserved : goal.put_members-loop-decl-preserved
put_members-loop-decl-preserved g t c =
    let i = c.loop-decl.decl-index in
    let before = c.loop-decl.invariant in
    let here = members-here c.args.decls.now i c.decl-item.result c.loop-decl-test.true c.decl-item.is in
    let counts : count_all (members_view (drop i c.args.decls.now)) ≡ count (member_view c.decl-item.result) + count_all (members_view (drop (i + 1) c.args.decls.now)) = ap count_all here in
    record {
      counted = omega (arith, counts, before.counted, c.in_ok-behind.ensures.next);
      way = λ ts rest st.
          members_next _ _ _ _ _ _ (marks_in c.args.marks.now) (kept (tested c.args.tests.now)) c.loop-decl.number (members_view (drop i c.args.decls.now)) (member_view c.decl-item.result) (members_view (drop (i + 1) c.args.decls.now)) c.loop-decl.rest.now rest _ here
          c.in_ok-behind.next c.in_ok-behind.behind.now c.in_ok-behind.ensures.next (before.way ts rest st) c.in_ok-behind.ensures.puts c.in_ok-behind.ensures.rest;
      count = c.in_ok-behind.ensures.cause.kept ∙ before.count;
      beside = c.put_member.ensures.beside ∙ before.beside;
    }

pub put_members-returns-clause-puts : goal.put_members-returns-clause-puts
put_members-returns-clause-puts g t c = λ ts rest st.
    (members_end _ _ _ _ (marks_in c.args.marks.now) (kept (tested c.args.tests.now)) c.loop-decl.number (members_view (drop c.loop-decl.decl-index c.args.decls.now)) c.loop-decl.rest.now rest _
    (members-end c.args.decls.now c.loop-decl.decl-index c.loop-decl-test.false) (c.loop-decl.invariant.way ts rest st)).0

pub put_members-returns-clause-rest : goal.put_members-returns-clause-rest
put_members-returns-clause-rest g t c = λ ts rest st.
    (members_end _ _ _ _ (marks_in c.args.marks.now) (kept (tested c.args.tests.now)) c.loop-decl.number (members_view (drop c.loop-decl.decl-index c.args.decls.now)) c.loop-decl.rest.now rest _
    (members-end c.args.decls.now c.loop-decl.decl-index c.loop-decl-test.false) (c.loop-decl.invariant.way ts rest st)).1
