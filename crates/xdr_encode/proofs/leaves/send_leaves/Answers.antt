use Rattle.std.proofs.Common.{◌≡◌, ◌<◌, ℕ, List, Some, All, refl, sym, ap, ◌∙◌, subst, arith, length}
use Rattle.std.specs.Io.KnownBytes.{Appends}
use Rattle.std.proofs.KnownBytes.{Appends-nil}
use Rattle.dap_outside.proofs.Fronts.{on_err}
use Rattle.xdr_encode.proofs.Walk.{leaves-none, this-leaf, ask-next, ask-bound, leaves-more, leaves-stop, cost-so-far, all-leaves}
use Rattle.xdr_encode.specs.Sent.{AskAll, IsInside, LeavesStop, leaves_xdr}
use Rattle.xdr_encode.proofs.leaves.send_leaves.Goals as goal

pub loop-leaf-init : goal.loop-leaf-init
loop-leaf-init g c = record {
  text = λ bytes h e. subst (λ text. Appends (g.O.Sink.written c.args.out.now) (g.O.Sink.written c.args.out.now) text) (sym (leaves-none bytes)) (Appends-nil (g.O.Sink.written c.args.out.now));
  asked = omega arith;
  same_file = refl;
  same_size = refl;
  files = refl;
  greatest = omega arith;
  reads = refl;
  puts = refl;
  beside = refl;
  alone = λ e. (refl, refl);
}

pub send_leaf-requires-clause-inside : goal.send_leaf-requires-clause-inside
send_leaf-requires-clause-inside g c lifetimes outlive =
    subst (λ n. IsInside n c.leaf-item.result) (sym c.loop-leaf.invariant.same_size)
    (this-leaf c.args.leaves.now c.loop-leaf.leaf-index c.leaf-item.result c.loop-leaf-test.true c.leaf-item.is (IsInside (g.S.Shelf.size_of c.args.shelf.now c.args.file.now)) c.requires.inside)

pub returns-in_err-send_leaf-clause-err : goal.returns-in_err-send_leaf-clause-err
returns-in_err-send_leaf-clause-err g c =
    let kept = c.loop-leaf.invariant in
    let stopped : (bytes : List ℕ) → All (λ b. b < 256) bytes → g.S.Shelf.content c.args.shelf.now c.args.file.now ≡ Some bytes →
    LeavesStop c.args.leaves.now bytes (g.O.Sink.written c.args.out.now) (g.O.Sink.written c.send_leaf.new.out) (g.S.Shelf.asked c.args.shelf.now) (g.S.Shelf.asked c.send_leaf.new.shelf)
    = λ bytes h e.
    leaves-stop c.args.leaves.now c.loop-leaf.leaf-index c.leaf-item.result c.loop-leaf-test.true c.leaf-item.is bytes (g.O.Sink.written c.args.out.now) (g.O.Sink.written c.loop-leaf.out) (g.O.Sink.written c.send_leaf.new.out)
    (g.S.Shelf.asked c.args.shelf.now) (g.S.Shelf.asked c.loop-leaf.shelf) (g.S.Shelf.asked c.send_leaf.new.shelf) (kept.text bytes h e) kept.asked (c.in_err-send_leaf.ensures.err bytes h (kept.same_file ∙ e)) in
    on_err _ _ stopped

pub returns-in_err-send_leaf-clause-asked : goal.returns-in_err-send_leaf-clause-asked
returns-in_err-send_leaf-clause-asked g c =
    cost-so-far c.args.leaves.now c.loop-leaf.leaf-index c.leaf-item.result c.loop-leaf-test.true c.leaf-item.is (g.S.Shelf.asked c.args.shelf.now) (g.S.Shelf.asked c.loop-leaf.shelf) (g.S.Shelf.asked c.send_leaf.new.shelf) c.loop-leaf.invariant.asked c.send_leaf.ensures.asked

pub loop-leaf-preserved : goal.loop-leaf-preserved
loop-leaf-preserved g c =
    let kept = c.loop-leaf.invariant in
    let sent = c.send_leaf.ensures in
    record {
      text = λ bytes h e.
          leaves-more c.args.leaves.now c.loop-leaf.leaf-index c.leaf-item.result c.loop-leaf-test.true c.leaf-item.is bytes (g.O.Sink.written c.args.out.now) (g.O.Sink.written c.loop-leaf.out) (g.O.Sink.written c.send_leaf.new.out)
          (kept.text bytes h e) (c.in_ok-send_leaf.ensures.ok bytes h (kept.same_file ∙ e));
      asked = ask-next c.args.leaves.now c.loop-leaf.leaf-index c.leaf-item.result c.loop-leaf-test.true c.leaf-item.is (g.S.Shelf.asked c.args.shelf.now) (g.S.Shelf.asked c.loop-leaf.shelf) (g.S.Shelf.asked c.send_leaf.new.shelf) kept.asked c.in_ok-send_leaf.ensures.read;
      same_file = sent.same_file ∙ kept.same_file;
      same_size = sent.same_size ∙ kept.same_size;
      files = sent.files ∙ kept.files;
      greatest = omega (arith, sent.greatest, kept.greatest);
      reads = c.in_ok-send_leaf.ensures.cause.kept.0 ∙ kept.reads;
      puts = c.in_ok-send_leaf.ensures.cause.kept.1 ∙ kept.puts;
      beside = sent.beside ∙ kept.beside;
      alone = λ e. absurd (omega (arith, c.loop-leaf-test.true, ap length e));
    }

pub returns-clause-ok : goal.returns-clause-ok
returns-clause-ok g c = λ bytes h e.
    subst (λ ls. Appends (g.O.Sink.written c.args.out.now) (g.O.Sink.written c.loop-leaf.out) (leaves_xdr ls bytes)) (all-leaves c.args.leaves.now c.loop-leaf.leaf-index c.loop-leaf-test.false) (c.loop-leaf.invariant.text bytes h e)

pub returns-clause-asked : goal.returns-clause-asked
returns-clause-asked g c =
    ask-bound c.args.leaves.now (g.S.Shelf.asked c.args.shelf.now) (g.S.Shelf.asked c.loop-leaf.shelf)
    (subst (λ ls. AskAll ls (g.S.Shelf.asked c.args.shelf.now) (g.S.Shelf.asked c.loop-leaf.shelf)) (all-leaves c.args.leaves.now c.loop-leaf.leaf-index c.loop-leaf-test.false) c.loop-leaf.invariant.asked)

pub returns-in_err-send_leaf-clause-alone : goal.returns-in_err-send_leaf-clause-alone
returns-in_err-send_leaf-clause-alone g c = λ e. absurd (omega (arith, c.loop-leaf-test.true, ap length e))

pub returns-clause-alone : goal.returns-clause-alone
returns-clause-alone g c = λ e.
    let kept = c.loop-leaf.invariant.alone e in
    (refl, kept.0, kept.1)
