use Rattle.std.proofs.Common.{◌≡◌, ◌+◌, ◌-◌, ◌∙◌, true, false, refl, sym, arith}
use Rattle.std.proofs.lemmas.Bool.{true≢false}
use Rattle.dap_client.proofs.Lasts.{counts, counts-none, goes-on, last-one, no-link, no-read-fault, no-write-fault, one-more}
use Rattle.dap_client.specs.Fetched.{count_of, is_complete}
use Rattle.dap_client.specs.Following.{pending}
use Rattle.dap_client.proofs.fetching.read_replies.Goals.{then-is_complete, else-is_complete}
use Rattle.dap_client.proofs.fetching.read_replies.Goals as goal

pub returns-then-not-is_complete-clause-read : goal.returns-then-not-is_complete-clause-read
returns-then-not-is_complete-clause-read g c =
    let kept = c.loop-whole.invariant in
    let (taken, text, consumes, appends, tells, in_time) = c.next-outcome.ensures.tells kept.open_still in
    let other : is_complete c.next-outcome.result ≡ false = sym c.is_complete.ensures ∙ c.if-not-is_complete.true in
    last-one _ c.loop-whole.whole c.args.count _ _ _ _ _ _ _ (pending c.next-outcome.new.self) (g.I.Source.ended c.next-outcome.new.source) c.next-outcome.result _ kept.so_far
    (record { taken = taken; text = text; consumes = consumes; appends = appends; tells = tells; in_time = in_time; at_end = g.met.I.Source.ended_empty c.next-outcome.new.source })
    (omega (arith, c.loop-whole-test.true, c.requires.some)) (λ whole. absurd (true≢false (sym whole ∙ other))) refl (counts-none c.next-outcome.result c.loop-whole.whole other)

pub loop-whole-preserved : goal.loop-whole-preserved
loop-whole-preserved g c =
    let kept = c.loop-whole.invariant in
    let (taken, text, consumes, appends, tells, in_time) = c.next-outcome.ensures.tells kept.open_still in
    let whole : is_complete c.next-outcome.result ≡ true = sym c.is_complete.ensures ∙ c.if-not-is_complete.false in
    record {
      so_far = one-more _ c.loop-whole.whole _ _ _ _ _ _ _ (pending c.next-outcome.new.self) (g.I.Source.ended c.next-outcome.new.source) c.next-outcome.result kept.so_far
          (record { taken = taken; text = text; consumes = consumes; appends = appends; tells = tells; in_time = in_time; at_end = g.met.I.Source.ended_empty c.next-outcome.new.source }) whole;
      open_still = goes-on c.next-outcome.result c.next-outcome.new.self.stopped whole c.next-outcome.ensures.stops;
      takes = c.next-outcome.ensures.kept_reading (no-read-fault c.next-outcome.result whole) ∙ kept.takes;
      puts = c.next-outcome.ensures.kept_writing (no-write-fault c.next-outcome.result whole) ∙ kept.puts;
      input = c.next-outcome.ensures.whole ∙ kept.input;
      beside_source = c.next-outcome.ensures.beside_reading ∙ kept.beside_source;
      beside_sink = c.next-outcome.ensures.beside_writing ∙ kept.beside_sink;
    }

pub returns-then-not-is_complete-clause-no_link : goal.returns-then-not-is_complete-clause-no_link
returns-then-not-is_complete-clause-no_link g c =
    let (taken, text, consumes, appends, tells, in_time) = c.next-outcome.ensures.tells c.loop-whole.invariant.open_still in
    no-link _ _ _ _ _ c.next-outcome.result tells

pub returns-clause-no_link : goal.returns-clause-no_link
returns-clause-no_link g c =
    let (taken, text, consumes, appends, tells, in_time) = c.next-last.ensures.tells c.loop-whole.invariant.open_still in
    no-link _ _ _ _ _ c.next-last.result tells

pub returns-clause-read : goal.returns-clause-read
returns-clause-read g c =
    let kept = c.loop-whole.invariant in
    let (taken, text, consumes, appends, tells, in_time) = c.next-last.ensures.tells kept.open_still in
    let at : c.loop-whole.whole + 1 ≡ c.args.count = omega (arith, c.loop-whole-test.false, c.loop-whole.auto.whole-end, c.requires.some) in
    let below : c.args.count - 1 ≡ c.loop-whole.whole = omega (arith, at) in
    let whole : c.if-is_complete.whole ≡ c.loop-whole.whole + count_of c.next-last.result = elim c.if-is_complete.branch [
      | then-is_complete w ↦ w.whole-is ∙ sym at ∙ counts c.next-last.result c.loop-whole.whole (sym c.is_complete-2.ensures ∙ w.if-is_complete.true)
      | else-is_complete w ↦ w.whole-is ∙ below ∙ counts-none c.next-last.result c.loop-whole.whole (sym c.is_complete-2.ensures ∙ w.if-is_complete.false)
    ] in
    last-one _ c.loop-whole.whole c.args.count _ _ _ _ _ _ _ (pending c.next-last.new.self) (g.I.Source.ended c.next-last.new.source) c.next-last.result _ kept.so_far
    (record { taken = taken; text = text; consumes = consumes; appends = appends; tells = tells; in_time = in_time; at_end = g.met.I.Source.ended_empty c.next-last.new.source })
    (omega (arith, at)) (λ complete. at) refl whole
