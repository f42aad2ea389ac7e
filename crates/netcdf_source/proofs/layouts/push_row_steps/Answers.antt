use Rattle.std.proofs.Common.{◌≡◌, ℕ, ◌*◌, ◌^◌, ◌+◌, List, [], ◌∷◌, ◌++◌, ◌-◌, min, take, drop, length, sym, ap, ◌∙◌, append_assoc, arith}
use Rattle.std.proofs.lemmas.List.{append-nil, take_all, length-drop}
use Rattle.dap_types.specs.Model.{product}
use Rattle.netcdf_source.specs.Layouts.{row_steps}
use Rattle.netcdf_source.specs.Parts.{lengths}
use Rattle.netcdf_source.proofs.Steps.{row_next, row_end, suffix_fits}
use Rattle.netcdf_source.proofs.layouts.push_row_steps.Goals as goal

pub loop-i-preserved : goal.loop-i-preserved
loop-i-preserved c =
    let dims = c.args.dimensions.now in
    let ids = c.args.ids.now in
    let i = c.loop-i.i in
    let size = c.args.size in
    let rest = row_steps size (lengths dims (drop (i + 1) ids)) in
    let fits = suffix_fits dims ids size (i + 1) c.requires in
    let whole : take (length ids - (i + 1)) (drop (i + 1) ids) ≡ drop (i + 1) ids = take_all _ _ (omega (arith, length-drop (i + 1) ids)) in
    let product_is : c.times_lengths.result ≡ min (size * product (lengths dims (drop (i + 1) ids))) (2 ^ 62 + 1) = rw (← whole, ← c.from.ensures) c.times_lengths.ensures in
    let step : c.times_lengths.result ≡ size * product (lengths dims (drop (i + 1) ids)) = omega (arith, product_is, fits) in
    rw c.in_ok-push.ensures.ok (append_assoc c.loop-i.steps (c.times_lengths.result ∷ []) rest ∙ ap (λ (n : ℕ). c.loop-i.steps ++ n ∷ rest) step ∙ ap (λ (xs : List ℕ). c.loop-i.steps ++ xs) (sym (row_next dims ids i size c.loop-i-test.true)) ∙ c.loop-i.invariant)

pub returns : goal.returns
returns c =
    let none = row_end c.args.dimensions.now c.args.ids.now c.loop-i.i c.args.size c.loop-i-test.false in
    sym (append-nil c.loop-i.steps) ∙ ap (λ (xs : List ℕ). c.loop-i.steps ++ xs) (sym none) ∙ c.loop-i.invariant
