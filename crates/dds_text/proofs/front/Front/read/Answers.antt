use Rattle.std.proofs.Common.{◌+◌, ◌++◌, [], List, ℕ, take, drop, sym, subst, ◌∙◌, arith}
use Rattle.dds_text.proofs.Stops.{more_of_word, text_whole, place_in, next_byte, ended_in, whole_piece}
use Rattle.dap_types.specs.View.{dataset_view}
use Rattle.dds_text.specs.inner.Standing.{StopsAt}
use Rattle.dds_text.proofs.front.Front.read.Goals as goal

pub loop-i-preserved-then-is_plain : goal.loop-i-preserved-then-is_plain
loop-i-preserved-then-is_plain c = record {
  within = omega (arith, c.loop-i.invariant.within);
  stays = c.loop-i.invariant.stays;
  read = λ text is. more_of_word c.loop-i.self c.args.piece.now text c.loop-i.from c.loop-i.i c.loop-i.invariant.within c.loop-i-test.true (sym c.is_plain.ensures ∙ c.if-is_plain.true) (c.loop-i.invariant.read text is);
}

pub returns-in-Bad-clause-found : goal.returns-in-Bad-clause-found
returns-in-Bad-clause-found c = λ text is.
    let before = text ++ take c.loop-i.i c.args.piece.now in
    let bad = rw c.in-Bad.is at (c.in_ok-stop.ensures.found before (drop (c.loop-i.i + 1) c.args.piece.now) (c.loop-i.invariant.read text is) (place_in text c.args.piece.now c.loop-i.i _ _ c.loop-i-test.true c.loop-i.invariant.stays is.1) (sym c.is_plain.ensures ∙ c.if-is_plain.false)) in
    let P : List ℕ → Type 0 = λ t. StopsAt t c.in-Bad.place in
    subst P (text_whole text c.args.piece.now c.loop-i.i c.loop-i-test.true) bad

pub returns-in-Done-clause-found : goal.returns-in-Done-clause-found
returns-in-Done-clause-found c = λ text is.
    let before = text ++ take c.loop-i.i c.args.piece.now in
    let (used, ends) = rw c.in-Done.is at (c.in_ok-stop.ensures.found before [] (c.loop-i.invariant.read text is) (place_in text c.args.piece.now c.loop-i.i _ _ c.loop-i-test.true c.loop-i.invariant.stays is.1) (sym c.is_plain.ensures ∙ c.if-is_plain.false)) in
    ended_in text c.args.piece.now c.loop-i.i c.in-Done.used (dataset_view c.in-Done.dataset) c.loop-i-test.true used ends

pub loop-i-preserved : goal.loop-i-preserved
loop-i-preserved c = record {
  within = omega arith;
  stays = c.stop.ensures.stays ∙ c.loop-i.invariant.stays;
  read = λ text is.
      let before = text ++ take c.loop-i.i c.args.piece.now in
      let found = rw c.in-Nothing.is at (c.in_ok-stop.ensures.found before [] (c.loop-i.invariant.read text is) (place_in text c.args.piece.now c.loop-i.i _ _ c.loop-i-test.true c.loop-i.invariant.stays is.1) (sym c.is_plain.ensures ∙ c.if-is_plain.false)) in
      next_byte c.stop.new.self c.args.piece.now text c.loop-i.i c.loop-i-test.true found;
}

pub returns-clause-found : goal.returns-clause-found
returns-clause-found c = λ text is.
    let (reads, began) = c.loop-i.invariant.read text is in
    let (r, b, n) = whole_piece c.loop-i.self.parser c.loop-i.self.word.items c.put.new.out.items c.loop-i.self.began c.loop-i.self.length c.args.self.now.length c.args.piece.now text c.loop-i.from c.loop-i.i
    c.loop-i-test.false c.loop-i.auto.i-end c.loop-i.invariant.stays is.1 c.in_ok-put.ensures reads began in
    ((r, b), n)
