use Rattle.std.proofs.Common.{◌≡◌, ◌+◌, ◌<◌, length, take, ◌∷◌, [], get_or, arith, ap, ◌∙◌}
use Rattle.std.proofs.lemmas.List.{take_more}
use Rattle.dap_http.specs.inner.Steps.{advance, run}
use Rattle.dap_http.proofs.Runs.{run-append}
use Rattle.dap_http.proofs.unframer.Unframer.read_lines.Goals as goal

pub loop-used-preserved : goal.loop-used-preserved
loop-used-preserved c = record {
  within = omega arith;
  tracks = λ k t.
      let p = c.args.piece.now in
      let u = c.loop-used.used in
      let (before, same) = c.loop-used.invariant.tracks k t in
      let (after, kept) = c.read_byte.ensures.tracks (run k (take u p)) before in
      let inside : u < length p = omega arith in
      let e : run k (take (u + 1) p) ≡ advance (run k (take u p)) (get_or p u 0) = ap (run k) (take_more p u 0 inside) ∙ run-append k (take u p) (get_or p u 0 ∷ []) in
      rw e (after, kept ∙ same);
  counted = omega (arith, c.read_byte.ensures.used, c.loop-used.invariant.counted);
  coding = c.read_byte.ensures.coding ∙ c.loop-used.invariant.coding;
}
