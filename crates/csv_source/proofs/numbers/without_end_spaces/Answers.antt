use Rattle.std.proofs.Common.{arith, refl, sym, ap, ◌∙◌, ◌≡◌, ◌+◌, ◌-◌, ◌∷◌, ◌++◌, [], get_or, take, false}
use Rattle.std.specs.Prelude.{◌==◌}
use Rattle.std.proofs.lemmas.Bool.Decides.{nat_tests}
use Rattle.std.proofs.lemmas.List.{take_more}
use Rattle.csv_source.specs.Cells.{without_end_spaces}
use Rattle.csv_source.proofs.Spaces.{end-none, end-other, end-space}
use Rattle.csv_source.proofs.numbers.without_end_spaces.Goals as goal
use Rattle.csv_source.proofs.numbers.without_end_spaces.Goals.{then-loop-end-test+else-text-end-eq32, else-loop-end-test}

pub loop-end-preserved : goal.loop-end-preserved
loop-end-preserved c =
    let text = c.args.text.now in
    let i = c.loop-end.end - 1 in
    let back : c.loop-end.end ≡ i + 1 = omega (arith, c.loop-end-test.true) in
    let space : get_or text i 0 ≡ 32 = omega (arith, c.if-text-end-eq32.true) in
    let last : take (i + 1) text ≡ take i text ++ 32 ∷ [] = take_more text i 0 (omega (arith, c.loop-end-test.true, c.loop-end.invariant.within)) ∙ rw space refl in
    record {
      same = c.loop-end.invariant.same ∙ ap (λ k. without_end_spaces (take k text)) back ∙ ap without_end_spaces last ∙ end-space (take i text);
      within = omega (arith, c.loop-end.invariant.within);
    }

pub returns : goal.returns
returns c =
    let text = c.args.text.now in
    let i = c.loop-end.end - 1 in
    elim c.loop-end-test.branch [
      | then-loop-end-test+else-text-end-eq32 w ↦
          let back : c.loop-end.end ≡ i + 1 = omega (arith, w.loop-end-test.true) in
          let other : (get_or text i 0 == 32) ≡ false = grind (arith, nat_tests, w.if-text-end-eq32.false) in
          let last : take (i + 1) text ≡ take i text ++ get_or text i 0 ∷ [] = take_more text i 0 (omega (arith, w.loop-end-test.true, c.loop-end.invariant.within)) in
          let kept : take c.loop-end.end text ≡ take i text ++ get_or text i 0 ∷ [] = ap (λ k. take k text) back ∙ last in
          kept ∙ sym (c.loop-end.invariant.same ∙ ap without_end_spaces kept ∙ end-other (take i text) (get_or text i 0) other)
      | else-loop-end-test w ↦
          let none : c.loop-end.end ≡ 0 = omega (arith, w.loop-end-test.false) in
          ap (λ k. take k text) none ∙ sym (c.loop-end.invariant.same ∙ ap (λ k. without_end_spaces (take k text)) none ∙ end-none)
    ]
