use Rattle.std.proofs.Common.{◌∙◌, ap, sym, [], arith, refl, inl, inr, length, append-nil}
use Rattle.std.proofs.KnownBytes.{Consumes-nil}
use Rattle.dap_http.specs.Requests.{feeds}
use Rattle.dap_http.proofs.ReplyReading.{are-cut, cut-final, none-yet, past-more, too-long, too-long-final}
use Rattle.dap_http.proofs.reply_reader.ReplyReader.go_on.Goals as goal

pub returns-then-len-ge-LONGEST-clause-reads : goal.returns-then-len-ge-LONGEST-clause-reads
returns-then-len-ge-LONGEST-clause-reads g c =
    let kept = c.args.self.now.kept.items in (
      [],
      Consumes-nil _,
      rw c.refused.ensures (refl, inr (inl (refl, too-long kept c.args.at c.requires.past c.requires.none.0 (omega (arith, c.if-len-ge-LONGEST.true, c.len.ensures)), sym (append-nil kept)))),
      omega (arith, c.args.self.now.few, ap length (append-nil kept)),
    )

pub returns-then-len-ge-LONGEST-clause-found : goal.returns-then-len-ge-LONGEST-clause-found
returns-then-len-ge-LONGEST-clause-found g c = λ left rest head e f.
    rw c.refused.ensures (inr (refl, too-long-final c.args.self.now.kept.items left rest c.args.at head c.requires.past c.requires.none.0 (omega (arith, c.if-len-ge-LONGEST.true, c.len.ensures)) f))

pub returns-in-Ok-eq0-clause-reads : goal.returns-in-Ok-eq0-clause-reads
returns-in-Ok-eq0-clause-reads g c =
    let (x, consumes, items) = c.take_line.ensures.takes in
    let (ended, at_end) = c.in-Ok-eq0.ensures.end c.in-Ok-eq0.field-0-test in (
      x,
      consumes,
      rw c.refused-in-Ok-eq0.ensures (
        refl,
        inr (inr (inl (
          refl,
          ended,
          are-cut c.args.self.now.kept.items x c.args.at c.requires.past c.requires.none (omega (arith, ap length items, c.in-Ok-eq0.ensures.count, c.in-Ok-eq0.field-0-test)) (omega (arith, c.if-len-ge-LONGEST.false, c.len.ensures)),
          items,
        ))),
      ),
      omega (arith, ap length items, c.take_line.ensures.most),
    )

pub returns-in-Ok-eq0-clause-found : goal.returns-in-Ok-eq0-clause-found
returns-in-Ok-eq0-clause-found g c = λ left rest head e f.
    let (x, consumes, items) = c.take_line.ensures.takes in
    let (ended, at_end) = c.in-Ok-eq0.ensures.end c.in-Ok-eq0.field-0-test in
    absurd (cut-final _ _ c.args.self.now.kept.items left x rest c.args.at head e consumes at_end
    (omega (arith, ap length items, c.in-Ok-eq0.ensures.count, c.in-Ok-eq0.field-0-test)) c.requires.past c.requires.none.0 f)

pub returns-in-Ok-clause-reads : goal.returns-in-Ok-clause-reads
returns-in-Ok-clause-reads g c =
    let (x, consumes, items) = c.take_line.ensures.takes in
    (x, consumes, (items, past-more c.args.self.now.kept.items x c.args.at c.requires.past), omega (arith, ap length items, c.take_line.ensures.most))

pub returns-in-Err-clause-reads : goal.returns-in-Err-clause-reads
returns-in-Err-clause-reads g c =
    let kept = c.args.self.now.kept.items in
    let (x, consumes, items) = c.take_line.ensures.takes in
    (x, consumes, (none-yet kept x c.args.at c.requires.past c.requires.none.0 (ap feeds (sym items) ∙ c.in-Err.ensures.err), items), omega (arith, ap length items, c.take_line.ensures.most))
