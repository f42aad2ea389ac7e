use Rattle.std.proofs.Common.{◌≡◌, ◌≤◌, ◌∙◌, ℕ, [], length, sym, ap, refl, None, Some, Option, get_or, drop}
use Rattle.std.specs.Option.{option_or}
use Rattle.std.specs.List.{position_from}
use Rattle.std.proofs.lemmas.List.{drop_all}
use Rattle.netcdf_source.specs.Coordinates.{AreCoordinates}
use Rattle.netcdf_source.specs.Mapping.{is_coordinate_of, coordinate_at}
use Rattle.netcdf_source.proofs.coordinates.coordinates.Goals as goal

pub loop-i-init : goal.loop-i-init
unfolding coordinate_at
loop-i-init c = (c.in_ok-table.ensures.len ∙ ap length c.items.ensures, λ k. rw (c.in_ok-table.ensures.none k) refl)

none_more : (o : Option ℕ) → option_or o None ≡ o
none_more None = refl
none_more (Some x) = refl

pub returns : goal.returns
unfolding AreCoordinates
returns c = λ k.
    let contents = c.args.contents.now in
    let vs = contents.variables in
    let P = is_coordinate_of contents k in
    let le : length vs ≤ c.loop-i.i = rw (← c.items-variable-items.ensures) c.loop-i-test.false in
    let none : drop c.loop-i.i vs ≡ [] = drop_all c.loop-i.i vs le in
    let t = get_or c.loop-i.table.items k None in
    sym (none_more t) ∙ ap (λ xs. option_or t (position_from P c.loop-i.i xs)) (sym none) ∙ c.loop-i.invariant.1 k
