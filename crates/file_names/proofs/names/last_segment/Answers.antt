use Rattle.std.proofs.Common.{◌≡◌, ◌-◌, ◌∙◌, arith, sym, ap, length, take, drop}
use Rattle.std.specs.Prelude.{not, ◌==◌}
use Rattle.std.specs.List.{suffix_len}
use Rattle.std.proofs.lemmas.List.{length-drop, take_all}
use Rattle.file_names.specs.Names.{segment}
use Rattle.file_names.proofs.Segments.{nothing-behind, some-behind}
use Rattle.file_names.proofs.names.last_segment.Goals as goal
use Rattle.file_names.proofs.names.last_segment.Goals.{then-loop-start-test+else-file_name-start-ne47, else-loop-start-test}

pub returns : goal.returns
unfolding segment
returns c =
    let xs = c.args.file_name.now in
    let inv = c.loop-start.invariant in
    let whole : take (length xs - c.loop-start.start) (drop c.loop-start.start xs) ≡ drop c.loop-start.start xs = take_all _ _ (omega (arith, length-drop c.loop-start.start xs)) in
    let count : suffix_len (λ b. not (b == 47)) (take c.loop-start.start xs) ≡ 0 =
    elim c.loop-start-test.branch [
      | then-loop-start-test+else-file_name-start-ne47 w ↦ some-behind xs c.loop-start.start inv.0 (omega (arith, w.loop-start-test.true)) w.if-file_name-start-ne47.false
      | else-loop-start-test w ↦ nothing-behind xs c.loop-start.start (omega (arith, w.loop-start-test.false))
    ] in
    let place : length xs - suffix_len (λ b. not (b == 47)) xs ≡ c.loop-start.start = omega (arith, inv, count) in
    whole ∙ ap (λ n. drop n xs) (sym place)
