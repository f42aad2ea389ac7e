use Rattle.std.proofs.Common.{◌*◌, ◌∙◌, ◌≡◌, ap, arith, length, refl}
use Rattle.dap_outside.proofs.Passing.{front_as, passes_as, puts_as, puts_failed, way_begins, way_ends, way_failed, way_more}
use Rattle.xdr_decode.specs.inner.Taken.{sizes_of}
use Rattle.saved_source.proofs.Cutting.{at_first, at_next, kid_at, kid_stands, nested, picked_all, picked_next, picked_none}
use Rattle.saved_source.proofs.Putting.{no_dims, no_slabs, none_of, nested_elements, nested_small, whole_picked}
use Rattle.std.proofs.lemmas.List.{length-map}
use Rattle.dap_model.specs.Cutting.{whole_slabs}
use Rattle.dap_model.specs.Fits.{values_in}
use Rattle.saved_source.proofs.cut.+cutting.Goals as goal
use Rattle.saved_source.proofs.cut.+cutting.Goals.{put_cut-then-are_whole-via-then-are_whole, put_cut-then-are_whole-via-else-are_whole+then-is_empty, put_cut-then-are_whole-via-else-are_whole+else-is_empty+then-is_empty-2}

pub put_cut-returns-then-are_whole-clause-puts : goal.put_cut-returns-then-are_whole-clause-puts
put_cut-returns-then-are_whole-clause-puts g t c = λ u rest st.
    let ns = sizes_of c.args.dims.now in
    let long : length ns ≡ length c.args.dims.now = length-map c.args.dims.now (λ dim. dim.size) in
    let whole : c.args.slabs.now ≡ whole_slabs ns = elim c.then-are_whole.branch [
      | put_cut-then-are_whole-via-then-are_whole w ↦ c.are_whole.ensures w.if-are_whole.true
      | put_cut-then-are_whole-via-else-are_whole+then-is_empty w ↦ no_dims ns c.args.slabs.now st.within (long ∙ none_of c.args.dims.now w.is_empty.result w.if-is_empty.true w.is_empty.ensures)
      | put_cut-then-are_whole-via-else-are_whole+else-is_empty+then-is_empty-2 w ↦ no_slabs ns c.args.slabs.now st.within (none_of c.args.slabs.now w.is_empty-else-is_empty.result w.if-is_empty-2.true w.is_empty-else-is_empty.ensures)
    ] in
    let counts = nested_small c.args.base ns c.args.slabs.now u c.args.bytes.now rest c.elements.result st c.elements.ensures in
    puts_as c.put_whole.result _ _ _ _ _ _ (whole_picked c.args.base ns c.args.slabs.now u c.args.bytes.now rest whole st)
    (c.put_whole.ensures.puts (values_in u) rest counts.0 counts.1 (nested_elements c.args.base ns c.args.slabs.now u c.args.bytes.now rest st))

pub put_each-loop-init : goal.put_each-loop-init
put_each-loop-init g t c = record {
  at = λ n u rest st.
      at_first c.args.base n (sizes_of c.args.dims.now) c.args.slab c.args.slabs.now u c.args.bytes.now rest c.behind-rest.result.now c.elements-inner.result (c.from.result * c.elements-inner.result)
      (nested c.args.base n (sizes_of c.args.dims.now) c.args.slab c.args.slabs.now u c.args.bytes.now rest st) c.elements-inner.ensures (ap (λ k. k * c.elements-inner.result) c.from.ensures) c.behind-rest.ensures;
  way = λ n u rest st. way_begins _ _ _;
  count = refl;
  beside = refl;
}

pub put_each-returns-in_err-put_cut-clause-puts : goal.put_each-returns-in_err-put_cut-clause-puts
put_each-returns-in_err-put_cut-clause-puts g t c = λ n u rest st.
    let kept = c.loop.invariant in
    let k = c.loop.counter in
    let ns = sizes_of c.args.dims.now in
    let here = nested c.args.base n ns c.args.slab c.args.slabs.now u c.args.bytes.now rest st in
    puts_failed c.from_residual.result _ _ _ _ _ c.from_residual.ensures.0
    (front_as _ _ _ _ _ (picked_all c.args.base c.args.slab c.args.slabs.now u)
    (way_failed _ _ _ _ _ _ _ _ _ (picked_next c.args.base n c.args.slab c.args.slabs.now u k here.within here.kids_long c.loop-test.true) (kept.way n u rest st)
    (c.in_err-put_cut.ensures.puts (kid_at c.args.slab u k) _ (kid_stands c.args.base n ns c.args.slab c.args.slabs.now u c.args.bytes.now rest c.loop.rest.now k here (kept.at n u rest st) c.loop-test.true))))

pub put_each-loop-preserved : goal.put_each-loop-preserved
put_each-loop-preserved g t c =
    let kept = c.loop.invariant in
    let k = c.loop.counter in
    let ns = sizes_of c.args.dims.now in
    record {
      at = λ n u rest st.
          at_next c.args.base n ns c.args.slab c.args.slabs.now u c.args.bytes.now rest c.loop.rest.now c.behind-rest-in-loop.result.now c.elements-inner.result (c.from-in-loop.result * c.elements-inner.result) k
          (nested c.args.base n ns c.args.slab c.args.slabs.now u c.args.bytes.now rest st) c.elements-inner.ensures (ap (λ j. j * c.elements-inner.result) c.from-in-loop.ensures) (kept.at n u rest st) c.behind-rest-in-loop.ensures;
      way = λ n u rest st.
          let here = nested c.args.base n ns c.args.slab c.args.slabs.now u c.args.bytes.now rest st in
          way_more _ _ _ _ _ _ _ _ _ _ (picked_next c.args.base n c.args.slab c.args.slabs.now u k here.within here.kids_long c.loop-test.true) (kept.way n u rest st)
          (c.in_ok-put_cut.ensures.puts (kid_at c.args.slab u k) _ (kid_stands c.args.base n ns c.args.slab c.args.slabs.now u c.args.bytes.now rest c.loop.rest.now k here (kept.at n u rest st) c.loop-test.true));
      count = c.in_ok-put_cut.ensures.cause.kept ∙ kept.count;
      beside = c.put_cut.ensures.beside ∙ kept.beside;
    }

pub put_each-returns-clause-puts : goal.put_each-returns-clause-puts
put_each-returns-clause-puts g t c = λ n u rest st.
    passes_as _ _ _ _ _ _ (picked_all c.args.base c.args.slab c.args.slabs.now u)
    (way_ends _ _ _ _ _ _ (picked_none c.args.base c.args.slab c.args.slabs.now u c.loop.counter (omega (arith, c.loop-test.false))) (c.loop.invariant.way n u rest st))
