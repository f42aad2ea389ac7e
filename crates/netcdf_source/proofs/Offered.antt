-- What is known of a variable that is offered.
use Rattle.std.proofs.Common.{◌≡◌, ℕ, ◌-◌, ◌≤◌, Bool, true, false, not, ◌&&◌, cond, leb, ltb, List, [], ◌∷◌, length, take, All}
use Rattle.std.specs.List.{list_all}
use Rattle.std.proofs.lemmas.Bool.{ltb-false, leb-true, not-true}
use Rattle.std.proofs.lemmas.List.Elements.{All-nil, All-cons}
use Rattle.plain_lemmas.proofs.Lists.{all_of_take}
use Rattle.plain_lemmas.proofs.Truths.{both_true}
use Rattle.netcdf_source.specs.Mapping.{is_long, size_at, are_small, has_texts, element_dimensions, element_size, is_offered}
use Rattle.netcdf_source.specs.inner.Told.{AreSmall}
use Rattle.netcdf_source.specs.declared.header.Contents.{Contents}
use Rattle.netcdf_source.specs.declared.header.Variable.{Variable}

pub record Offered (c : Contents) (v : Variable) : Type 0 where
  pub short : is_long v.external_type ≡ false
  pub small : are_small c v.dimensions ≡ true
  pub few : element_size c v ≤ 65536

pub offered : (c : Contents) (v : Variable) → is_offered c v ≡ true → Offered c v
unfolding is_offered
offered c v e =
    let two = both_true (not (is_long v.external_type) && are_small c v.dimensions) (not (ltb 65536 (element_size c v))) e in
    let one = both_true (not (is_long v.external_type)) (are_small c v.dimensions) two.0 in
    record { short = not-true _ one.0; small = one.1; few = ltb-false _ _ (not-true _ two.1) }

pub offered_size : (c : Contents) (v : Variable) → is_offered c v ≡ true → element_size c v ≤ 65536
offered_size c v e = (offered c v e).few

small_sizes : (c : Contents) (ids : List ℕ) → list_all (λ i. leb (size_at c i) 2147483647) ids ≡ true → All (λ i. size_at c i ≤ 2147483647) ids
small_sizes c [] e = All-nil (λ i. size_at c i ≤ 2147483647)
small_sizes c (i ∷ ids) e =
    let parts = both_true (leb (size_at c i) 2147483647) (list_all (λ j. leb (size_at c j) 2147483647) ids) e in
    All-cons (λ j. size_at c j ≤ 2147483647) i ids (leb-true _ _ parts.0) (small_sizes c ids parts.1)

-- the sizes of its elements are those of an array
pub elements_small : (c : Contents) (v : Variable) → is_offered c v ≡ true → AreSmall c (element_dimensions c v)
unfolding AreSmall element_dimensions are_small
elements_small c v e = go (has_texts c v)
  where
    small : list_all (λ i. leb (size_at c i) 2147483647) v.dimensions ≡ true
    small = (offered c v e).small

    go : (b : Bool) → All (λ i. size_at c i ≤ 2147483647) (cond b (take (length v.dimensions - 1) v.dimensions) v.dimensions)
    go true = small_sizes c (take (length v.dimensions - 1) v.dimensions) (all_of_take (λ i. leb (size_at c i) 2147483647) (length v.dimensions - 1) v.dimensions small)
    go false = small_sizes c v.dimensions small
