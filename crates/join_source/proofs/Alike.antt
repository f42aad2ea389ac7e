-- The leaves of joined files have the numbers that they have in each of them.
use Rattle.std.proofs.Common.{◌≡◌, ℕ, zero, suc, ◌+◌, ◌<◌, ◌≤◌, List, [], ◌∷◌, length, get_or, Option, Some, None, refl, sym, ap, ◌∙◌, subst, arith}
use Rattle.std.proofs.lemmas.List.Sums.{sum_by-cons}
use Rattle.std.specs.Prelude.{option_map}
use Rattle.netcdf_source.specs.Mapping.{leaf_variable, shape_of, HaveSameShape}
use Rattle.netcdf_source.specs.declared.header.Contents.{Contents}
use Rattle.netcdf_source.specs.declared.header.Variable.{Variable}
use Rattle.join_source.proofs.Found.{joined-records, joined-shape}
use Rattle.join_source.proofs.Leaves.{one-leaf}
use Rattle.join_source.specs.Members.{LeavesAreAlike, all_records, joined_contents}

each-few : (cs : List Contents) (k : ℕ) (d : Contents) → k < length cs → (get_or cs k d).records ≤ all_records cs
each-few [] k d lt = absurd (omega (arith, lt))
each-few (c ∷ cs) zero d lt = let sum : all_records (c ∷ cs) ≡ c.records + all_records cs = sum_by-cons (λ x. x.records) c cs in let le : c.records ≤ all_records (c ∷ cs) = omega (arith, sum) in le
each-few (c ∷ cs) (suc k) d lt =
    let sum : all_records (c ∷ cs) ≡ c.records + all_records cs = sum_by-cons (λ x. x.records) c cs in
    let rest : (get_or cs k d).records ≤ all_records cs = each-few cs k d (omega (arith, lt)) in
    let le : (get_or cs k d).records ≤ all_records (c ∷ cs) = omega (arith, sum, rest) in le

-- a leaf of one header is one of another, both ways
alike : (c d : Contents) (leaf : ℕ) → HaveSameShape c d → c.records ≤ 2147483647 → d.records ≤ 2147483647 → option_map shape_of (leaf_variable c leaf) ≡ option_map shape_of (leaf_variable d leaf)
alike c d leaf same few small = go (leaf_variable c leaf) (leaf_variable d leaf) refl refl
  where
    back : HaveSameShape d c
    back = record { dimensions = sym same.dimensions; variables = sym same.variables }

    go : (o p : Option Variable) → leaf_variable c leaf ≡ o → leaf_variable d leaf ≡ p → option_map shape_of o ≡ option_map shape_of p
    go None None e f = refl
    go (Some v) p e f =
        let other = one-leaf c d leaf v same few small e in
        ap (λ x. Some (shape_of x)) other.2 ∙ sym (ap (option_map shape_of) (sym f ∙ other.1))
    go None (Some w) e f = let other = one-leaf d c leaf w back small few f in absurd (clash (sym e ∙ other.1))
      where
        clash : {x : Variable} → ◌≡◌ {A = Option Variable} None (Some x) → ⊥
        clash g = cc

pub leaves_are_alike : LeavesAreAlike
leaves_are_alike cs leaf can = λ k d lt.
    let small : (get_or cs k d).records ≤ 2147483647 = le-through (each-few cs k d lt) can.few in
    sym (alike (joined_contents cs) (get_or cs k d) leaf (joined-shape cs can.same k d lt) (subst (λ n. n ≤ 2147483647) (sym (joined-records cs)) can.few) small)
  where
    le-through : {a b m : ℕ} → a ≤ b → b ≤ m → a ≤ m
    le-through p q = omega (arith, p, q)
