use Rattle.std.proofs.Common.{length, arith, ◌∙◌, ap, ◌++◌, sym}
use Rattle.dap_http.specs.Requests.{feeds}
use Rattle.dap_http.proofs.HeadReading.{gone, no-request, none-still, none-within}
use Rattle.dap_http.proofs.head_reader.HeadReader.go_on.Goals as goal

pub returns-then-len-ge-LONGEST-clause-found : goal.returns-then-len-ge-LONGEST-clause-found
returns-then-len-ge-LONGEST-clause-found g c = λ left rest head e first.
    none-within c.args.self.now.kept.items left rest head c.requires.0 (omega (arith, c.if-len-ge-LONGEST.true, c.len.ensures)) first

pub returns-in-Ok-eq0-clause-reads : goal.returns-in-Ok-eq0-clause-reads
returns-in-Ok-eq0-clause-reads g c =
    let (x, consumes, items) = c.take_line.ensures.takes in (
      x,
      consumes,
      (
        (c.in-Ok-eq0.ensures.end c.in-Ok-eq0.field-0-test).0,
        gone c.args.self.now.kept.items x c.requires (omega (arith, ap length items, c.in-Ok-eq0.ensures.count, c.in-Ok-eq0.field-0-test)) (omega (arith, c.if-len-ge-LONGEST.false, c.len.ensures)),
        items,
      ),
    )

pub returns-in-Err-clause-reads : goal.returns-in-Err-clause-reads
returns-in-Err-clause-reads g c =
    let kept = c.args.self.now.kept.items in
    let (x, consumes, items) = c.take_line.ensures.takes in
    (x, consumes, (no-request (kept ++ x) (none-still kept x c.requires.0 (ap feeds (sym items) ∙ c.in-Err.ensures.err)), items))
