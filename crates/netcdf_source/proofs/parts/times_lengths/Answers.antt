use Rattle.std.proofs.Common.{◌≡◌, ℕ, suc, ◌+◌, ◌*◌, ◌^◌, ◌∷◌, min, drop, get_or, refl, ap, ◌∙◌, add-one, drop-cons, arith}
use Rattle.dap_types.specs.Model.{product}
use Rattle.netcdf_source.specs.Parts.{length_at, lengths}
use Rattle.netcdf_source.proofs.Limits.{stopped_step}
use Rattle.netcdf_source.proofs.parts.times_lengths.Goals as goal

pub loop-id-preserved : goal.loop-id-preserved
loop-id-preserved c =
    let inv = c.loop-id.invariant in
    let i = c.loop-id.id-index in
    let ids = c.args.ids.now in
    let cut : drop i ids ≡ get_or ids i 0 ∷ drop (suc i) ids = drop-cons ids i 0 (omega arith) in
    let rest = lengths c.args.dimensions.now (drop (i + 1) ids) in
    let length : c.length_of-length.result ≡ length_at c.args.dimensions.now (get_or ids i 0) = c.length_of-length.ensures in
    let tail : product (lengths c.args.dimensions.now (drop i ids)) ≡ c.length_of-length.result * product rest = rw (cut, length, add-one) refl in
    let so_far : min (c.loop-id.total * (c.length_of-length.result * product rest)) (2 ^ 62 + 1) ≡ min (c.args.count * product (lengths c.args.dimensions.now ids)) (2 ^ 62 + 1) = rw (← tail) inv.1 in
    stopped_step c.min-total.result c.loop-id.total c.length_of-length.result (product rest) (2 ^ 62 + 1) 18446744073709551615 _ (c.min-total.ensures ∙ ap (λ (x : ℕ). min x (2 ^ 62 + 1)) c.saturating_mul.ensures) (omega arith) so_far
