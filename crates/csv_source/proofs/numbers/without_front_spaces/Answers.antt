use Rattle.std.proofs.Common.{arith, sym, ◌∙◌, ◌≡◌, ◌+◌, ◌-◌, length, get_or, take, drop, true, false}
use Rattle.std.specs.Prelude.{◌==◌}
use Rattle.std.proofs.lemmas.Bool.Decides.{nat_tests}
use Rattle.std.proofs.lemmas.List.{drop_all, length-drop, take_all}
use Rattle.plain_lemmas.proofs.Lists.{drop_next}
use Rattle.csv_source.proofs.Spaces.{front-none, front-other, front-space}
use Rattle.csv_source.proofs.numbers.without_front_spaces.Goals as goal
use Rattle.csv_source.proofs.numbers.without_front_spaces.Goals.{then-loop-start-test+else-text-start-eq32, else-loop-start-test}

pub loop-start-preserved : goal.loop-start-preserved
loop-start-preserved c =
    let text = c.args.text.now in
    let i = c.loop-start.start in
    let space : (get_or text i 0 == 32) ≡ true = grind (arith, nat_tests, c.if-text-start-eq32.true) in
    record {
      same = c.loop-start.invariant.same ∙ front-space (drop i text) (get_or text i 0) (drop (i + 1) text) (drop_next text i c.loop-start-test.true) space;
      within = omega (arith, c.loop-start-test.true);
    }

pub returns : goal.returns
returns c =
    let text = c.args.text.now in
    let i = c.loop-start.start in
    let rest : take (length text - i) (drop i text) ≡ drop i text = take_all (length text - i) (drop i text) (omega (arith, length-drop i text)) in
    elim c.loop-start-test.branch [
      | then-loop-start-test+else-text-start-eq32 w ↦
          let other : (get_or text i 0 == 32) ≡ false = grind (arith, nat_tests, w.if-text-start-eq32.false) in
          rest ∙ sym (c.loop-start.invariant.same ∙ front-other (drop i text) (get_or text i 0) (drop (i + 1) text) (drop_next text i w.loop-start-test.true) other)
      | else-loop-start-test w ↦
          rest ∙ sym (c.loop-start.invariant.same ∙ front-none (drop i text) (drop_all i text (omega (arith, w.loop-start-test.false))))
    ]
