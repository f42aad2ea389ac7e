use Rattle.std.proofs.Common.{sym, subst, ap, arith, length, [], ◌++◌, refl, inl, append-nil, List, ℕ, ◌+◌}
use Rattle.std.proofs.KnownBytes.{Consumes-nil}
use Rattle.dap_http.specs.inner.ReplyJudging.{IsPast}
use Rattle.dap_http.proofs.ReplyReading.{answered-final, answers-final, gives-final, never-final, no-reply, past-head, same-final}
use Rattle.dap_http.proofs.reply_reader.ReplyReader.turn.Goals as goal

pub returns-in-Interim-clause-reads : goal.returns-in-Interim-clause-reads
returns-in-Interim-clause-reads g c =
    let kept = c.args.self.now.kept.items in
    let same = sym (append-nil kept) in (
      [],
      Consumes-nil _,
      (
        same,
        subst (λ (b : List ℕ). IsPast b (c.args.at + c.in-Interim.len)) same
            (past-head kept c.args.at c.in-Interim.len c.requires (rw (c.behind.ensures, c.as_slice.ensures.value) at c.in-Interim.ensures)),
      ),
      omega (arith, c.args.self.now.few, ap length same),
    )

pub returns-in-Final-clause-reads : goal.returns-in-Final-clause-reads
returns-in-Final-clause-reads g c =
    let kept = c.args.self.now.kept.items in (
      [],
      Consumes-nil _,
      answers-final (kept ++ []) c.skip.new.kept.items (g.I.Source.ended c.args.source.now) c.in-Final.coding c.final_read.result c.final_read.ensures
          (gives-final kept c.skip.new.kept.items c.args.at c.in-Final.len c.in-Final.coding c.requires (rw (c.behind.ensures, c.as_slice.ensures.value) at c.in-Final.ensures) c.skip.ensures.items c.args.self.now.few),
      omega (arith, c.args.self.now.few, ap length (append-nil kept)),
    )

pub returns-in-Final-clause-found : goal.returns-in-Final-clause-found
returns-in-Final-clause-found g c = λ left rest head e f.
    let kept = c.args.self.now.kept.items in
    answered-final (kept ++ left) rest head c.in-Final.coding c.final_read.result c.final_read.ensures
    (same-final kept left rest c.args.at c.in-Final.len head c.in-Final.coding c.requires (rw (c.behind.ensures, c.as_slice.ensures.value) at c.in-Final.ensures) f)

pub returns-in-Bad-clause-reads : goal.returns-in-Bad-clause-reads
returns-in-Bad-clause-reads g c =
    let kept = c.args.self.now.kept.items in
    ([], Consumes-nil _, rw c.refused.ensures (refl, inl (refl, no-reply kept c.args.at c.requires (rw (c.behind.ensures, c.as_slice.ensures.value) at c.in-Bad.ensures), sym (append-nil kept))), omega (arith, c.args.self.now.few, ap length (append-nil kept)))

pub returns-in-Bad-clause-found : goal.returns-in-Bad-clause-found
returns-in-Bad-clause-found g c = λ left rest head e f.
    let judged = rw (c.behind.ensures, c.as_slice.ensures.value) at c.in-Bad.ensures in
    absurd (never-final c.args.self.now.kept.items left rest c.args.at head c.requires judged.0 f)
