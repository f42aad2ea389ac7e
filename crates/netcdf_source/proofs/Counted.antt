-- A file's dataset has few members.
use Rattle.std.proofs.Common.{◌≡◌, ℕ, ◌+◌, ◌≤◌, Bool, true, false, cond, List, [], ◌∷◌, ◌++◌, length, map, sum_by, None, Some, refl, arith, length-append}
use Rattle.std.proofs.lemmas.List.{length-map}
use Rattle.std.proofs.lemmas.List.Sums.{sum_by-cons}
use Rattle.netcdf_source.specs.Mapping.{is_grid, is_offered, coordinate_at, leaves_of, leaves_from}
use Rattle.netcdf_source.specs.inner.Sound.{IsSound, grid_members}
use Rattle.netcdf_source.specs.declared.header.Contents.{Contents}
use Rattle.netcdf_source.specs.declared.header.Variable.{Variable}

few_leaves : (c : Contents) (k : ℕ) (vs : List Variable) → length (leaves_from c k vs) ≤ sum_by grid_members vs
unfolding leaves_from
few_leaves c k [] = omega arith
few_leaves c k (v ∷ vs) =
    let rest : length (leaves_from c (k + 1) vs) ≤ sum_by grid_members vs = few_leaves c (k + 1) vs in
    let own : length (cond (is_offered c v) (leaves_of c k v) []) ≤ grid_members v = here (is_offered c v) (is_grid c v) in
    let all : length (leaves_from c k (v ∷ vs)) ≡ length (cond (is_offered c v) (leaves_of c k v) [] ++ leaves_from c (k + 1) vs) = refl in
    let most : sum_by grid_members (v ∷ vs) ≡ grid_members v + sum_by grid_members vs = sum_by-cons grid_members v vs in
    omega (arith, rest, own, all, most, length-append (cond (is_offered c v) (leaves_of c k v) []) (leaves_from c (k + 1) vs))
  where
    here : (b g : Bool) → length (cond b (cond g (None ∷ Some k ∷ map (coordinate_at c) v.dimensions) (Some k ∷ [])) []) ≤ length v.dimensions + 2
    here true true = omega (arith, length-map v.dimensions (coordinate_at c))
    here true false = omega arith
    here false g = omega arith

pub few_members : (c : Contents) → IsSound c → length (leaves_from c 0 c.variables) ≤ 1000000
few_members c sound = omega (arith, few_leaves c 0 c.variables, sound.members)
