use Rattle.std.proofs.Common.{◌≡◌, ◌+◌, ◌∙◌, take, map, sym, ap, arith, true, false}
use Rattle.std.specs.List.{list_any}
use Rattle.std.specs.Option.{is_some}
use Rattle.std.specs.Str.{bytes_eq}
use Rattle.csv_source.proofs.Columns.{names-after, names-more, repeated-end, repeated-hit, repeated-miss}
use Rattle.csv_source.proofs.header.first_repeated.Goals as goal

pub returns-then-is_some : goal.returns-then-is_some
returns-then-is_some c =
    let i = c.loop-i.i in
    let column = c.index-columns-i.result in
    let found = c.loop-i.invariant.named c.bytes.result.now in
    let here : list_any (bytes_eq column.name) (map (λ d. d.name) (take i c.args.columns.now)) ≡ true =
    rw c.bytes.ensures at (sym found ∙ ap is_some (sym c.in_ok-earlier.ensures.old) ∙ sym c.is_some.ensures ∙ c.if-is_some.true) in
    sym (c.loop-i.invariant.same ∙ repeated-hit c.args.columns.now i (i + 1) column (map (λ d. d.name) (take i c.args.columns.now)) c.loop-i-test.true c.index-columns-i.is here)

pub loop-i-preserved : goal.loop-i-preserved
loop-i-preserved c =
    let i = c.loop-i.i in
    let column = c.index-columns-i.result in
    let found = c.loop-i.invariant.named c.bytes.result.now in
    let here : list_any (bytes_eq column.name) (map (λ d. d.name) (take i c.args.columns.now)) ≡ false =
    rw c.bytes.ensures at (sym found ∙ ap is_some (sym c.in_ok-earlier.ensures.old) ∙ sym c.is_some.ensures ∙ c.if-is_some.false) in
    record {
      same = c.loop-i.invariant.same ∙ repeated-miss c.args.columns.now i (i + 1) column c.loop-i-test.true c.index-columns-i.is here;
      named = λ q.
          rw (names-more c.args.columns.now i column c.loop-i-test.true c.index-columns-i.is, sym c.bytes.ensures)
          (names-after c.bytes.result.now c.loop-i.names c.insert.new.self (i + 1) (map (λ d. d.name) (take i c.args.columns.now)) c.loop-i.invariant.named c.in_ok-earlier.ensures.updates q);
    }

pub returns : goal.returns
returns c = sym (c.loop-i.invariant.same ∙ repeated-end c.args.columns.now c.loop-i.i (c.loop-i.i + 1) (map (λ d. d.name) (take c.loop-i.i c.args.columns.now)) (omega (arith, c.loop-i-test.false)))
