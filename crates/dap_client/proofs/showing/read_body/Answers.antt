use Rattle.std.proofs.Common.{arith, rules, ◌≡◌, ◌∙◌, true, inr}
use Rattle.dap_outside.proofs.Fronts.{on_err}
use Rattle.dap_client.proofs.Told.{open_not_failed, reads_on, rose_later, some_reads, still_short}
use Rattle.dap_client.specs.inner.Readers.{is_open}
use Rattle.dap_client.proofs.showing.read_body.Goals as goal

pub returns-in_err-read_piece-clause-reads : goal.returns-in_err-read_piece-clause-reads
returns-in_err-read_piece-clause-reads g c = reads_on _ _ _ _ _ _ c.loop-reader.reader c.read_piece.new.reader c.loop-reader.invariant.reads c.read_piece.ensures.reads

pub loop-reader-smaller : goal.loop-reader-smaller
loop-reader-smaller g c =
    let more : c.in_ok-read_piece.field-0 ≡ true = search (rules, c.if-not-branch.false) in
    let looks : is_open c.loop-reader.reader ≡ true = search (rules, c.is_open.ensures, c.loop-reader-test.true) in
    omega (arith, still_short c.loop-reader.reader (some_reads _ _ _ _ c.loop-reader.reader c.loop-reader.invariant.reads) looks, c.in_ok-read_piece.ensures.further more)

pub loop-reader-preserved : goal.loop-reader-preserved
loop-reader-preserved g c =
    let kept = c.loop-reader.invariant in
    let given = c.read_piece.ensures in
    let looks : is_open c.loop-reader.reader ≡ true = search (rules, c.is_open.ensures, c.loop-reader-test.true) in
    record {
      reads = reads_on _ _ _ _ _ _ c.loop-reader.reader c.read_piece.new.reader kept.reads given.reads;
      room = omega (arith, c.read_piece.auto.room, kept.room);
      quiet = λ quiet. let (before, same) = given.quiet quiet in same ∙ kept.quiet before;
      failed = λ failed. inr (rose_later _ _ _ kept.puts (given.failed failed));
      kept = λ n. given.kept n ∙ kept.kept (open_not_failed c.loop-reader.reader looks);
      puts = omega (arith, given.counts, kept.puts);
      takes = c.in_ok-read_piece.ensures.cause.kept ∙ kept.takes;
      whole = given.whole ∙ kept.whole;
      beside_reading = given.beside_reading ∙ kept.beside_reading;
      beside_writing = given.beside_writing ∙ kept.beside_writing;
    }

pub returns-then-not-branch-clause-reads : goal.returns-then-not-branch-clause-reads
returns-then-not-branch-clause-reads g c = reads_on _ _ _ _ _ _ c.loop-reader.reader c.read_piece.new.reader c.loop-reader.invariant.reads c.read_piece.ensures.reads

pub returns-in_err-read_piece-clause-kept : goal.returns-in_err-read_piece-clause-kept
returns-in_err-read_piece-clause-kept g c =
    let looks : is_open c.loop-reader.reader ≡ true = search (rules, c.is_open.ensures, c.loop-reader-test.true) in
    λ n. c.read_piece.ensures.kept n ∙ c.loop-reader.invariant.kept (open_not_failed c.loop-reader.reader looks)

pub returns-then-not-branch-clause-kept : goal.returns-then-not-branch-clause-kept
returns-then-not-branch-clause-kept g c =
    let looks : is_open c.loop-reader.reader ≡ true = search (rules, c.is_open.ensures, c.loop-reader-test.true) in
    λ n. c.read_piece.ensures.kept n ∙ c.loop-reader.invariant.kept (open_not_failed c.loop-reader.reader looks)

pub returns-after-loop-reader-clause-kept : goal.returns-after-loop-reader-clause-kept
returns-after-loop-reader-clause-kept g c = c.loop-reader.invariant.kept

pub returns-in_err-read_piece-clause-none_put : goal.returns-in_err-read_piece-clause-none_put
returns-in_err-read_piece-clause-none_put g c =
    let looks : is_open c.loop-reader.reader ≡ true = search (rules, c.is_open.ensures, c.loop-reader-test.true) in
    on_err c.from_residual.result _ (c.in_err-read_piece.ensures.none_put ∙ c.loop-reader.invariant.kept (open_not_failed c.loop-reader.reader looks))
