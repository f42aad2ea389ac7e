use Rattle.std.proofs.Common.{◌≡◌, ℕ, arith, ap, sym, inr, ◌∙◌, Err}
use Rattle.std.proofs.lemmas.Bool.{true≢false}
use Rattle.reply_faults.specs.declared.bad.BadField.{BadField as Wrong}
use Rattle.reply_faults.specs.declared.bad.Bad.TheVariants.{Cut}
use Rattle.dap_http.specs.inner.Tracking.{wrong_at}
use Rattle.dap_http.specs.inner.Steps.{is_open}
use Rattle.dap_http.specs.declared.chunk_step.At.TheVariants.{Done, Bad}
use Rattle.dap_http.specs.declared.coding.Coding.TheVariants as coding
use Rattle.dap_http.proofs.Answered.{counted-ends, counted-goes, finish-ends, finish-fails, finish-goes}
use Rattle.dap_http.proofs.unframer.Unframer.finish.Goals as goal

abbrev cut_at : ℕ → Wrong
cut_at place = record { kind = Cut; place = place }

pub returns-then-self-length-clause-ended : goal.returns-then-self-length-clause-ended
returns-then-self-length-clause-ended c = λ bytes body stands e.
    absurd (omega (arith, counted-ends c.args.self.now c.in-Length.length bytes body c.in-Length.is stands e, c.if-self-length.true))

pub returns-then-self-length-clause-cut : goal.returns-then-self-length-clause-cut
returns-then-self-length-clause-cut c = λ bytes body stands g.
    let (lent, few) = counted-goes c.args.self.now c.in-Length.length bytes body c.in-Length.is stands g in
    inr (ap Err (c.cut-then-self-length.ensures ∙ ap cut_at lent))

pub returns-in-Done-clause-faulty : goal.returns-in-Done-clause-faulty
returns-in-Done-clause-faulty c = λ bytes body place stands f.
    let (bad, from) = finish-fails c.args.self.now bytes body place c.in-Chunked.is stands f in
    let clash : Done ≡ Bad = sym c.in-Done.is ∙ bad in
    absurd (cc)

pub returns-in-Done-clause-cut : goal.returns-in-Done-clause-cut
returns-in-Done-clause-cut c = λ bytes body stands g.
    let (opens, lent) = finish-goes c.args.self.now bytes body c.in-Chunked.is stands g in
    absurd (true≢false (sym opens ∙ ap is_open c.in-Done.is))

pub returns-in-Bad-clause-ended : goal.returns-in-Bad-clause-ended
returns-in-Bad-clause-ended c = λ bytes body stands e.
    let done = finish-ends c.args.self.now bytes body c.in-Chunked.is stands e in
    let clash : Done ≡ Bad = sym done ∙ c.in-Bad.is in
    absurd (cc)

pub returns-in-Bad-clause-faulty : goal.returns-in-Bad-clause-faulty
returns-in-Bad-clause-faulty c = λ bytes body place stands f.
    let (bad, from) = finish-fails c.args.self.now bytes body place c.in-Chunked.is stands f in
    ap Err (c.fault.ensures ∙ ap wrong_at from)

pub returns-in-Bad-clause-cut : goal.returns-in-Bad-clause-cut
returns-in-Bad-clause-cut c = λ bytes body stands g.
    let (opens, lent) = finish-goes c.args.self.now bytes body c.in-Chunked.is stands g in
    absurd (true≢false (sym opens ∙ ap is_open c.in-Bad.is))

pub returns-in_default : goal.returns-in_default
returns-in_default c = record {
  ended = λ bytes body stands e. absurd (c.in_default.not-Done (finish-ends c.args.self.now bytes body c.in-Chunked.is stands e));
  to_end = λ e. let clash : coding.Chunked ≡ coding.ToEnd = sym c.in-Chunked.is ∙ e in absurd (cc);
  faulty = λ bytes body place stands f. absurd (c.in_default.not-Bad ((finish-fails c.args.self.now bytes body place c.in-Chunked.is stands f).0));
  cut = λ bytes body stands g.
      let (opens, lent) = finish-goes c.args.self.now bytes body c.in-Chunked.is stands g in
      inr (ap Err (c.cut.ensures ∙ ap cut_at lent));
}

pub returns-else-self-length-clause-cut : goal.returns-else-self-length-clause-cut
returns-else-self-length-clause-cut c = λ bytes body stands g.
    let (lent, few) = counted-goes c.args.self.now c.in-Length.length bytes body c.in-Length.is stands g in
    absurd (omega (arith, few, c.if-self-length.false))
