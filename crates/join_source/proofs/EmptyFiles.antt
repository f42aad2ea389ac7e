-- A file without records behind others of its shape.
use Rattle.std.proofs.Common.{◌≡◌, ℕ, ◌+◌, ◌≤◌, List, [], ◌∷◌, ◌++◌, refl, sym, ap, subst, arith}
use Rattle.std.proofs.lemmas.List.Elements.{All-append, All-cons, All-nil}
use Rattle.std.proofs.lemmas.List.Sums.{sum_by-append}
use Rattle.std.specs.List.{sum_by}
use Rattle.dap_model.proofs.Values.{all_front}
use Rattle.dap_types.specs.Limits.{most_elements}
use Rattle.netcdf_source.specs.Mapping.{with_records, HaveSameShape}
use Rattle.netcdf_source.specs.declared.header.Contents.{Contents}
use Rattle.join_source.specs.Members.{all_records, CanJoin, EmptyAddsNothing, joined_contents}

abbrev with_empty : Contents → List Contents → List Contents
with_empty c cs = (c ∷ cs) ++ with_records 0 c ∷ []

no_more_records : (c : Contents) (cs : List Contents) → all_records (with_empty c cs) ≡ all_records (c ∷ cs)
no_more_records c cs =
    let sum : all_records (with_empty c cs) ≡ all_records (c ∷ cs) + all_records (with_records 0 c ∷ []) = sum_by-append (λ (d : Contents). d.records) (c ∷ cs) (with_records 0 c ∷ []) in
    let none : all_records (with_records 0 c ∷ []) ≡ 0 = refl in
    omega (arith, sum, none)

same_contents : (c : Contents) (cs : List Contents) → joined_contents (with_empty c cs) ≡ joined_contents (c ∷ cs)
unfolding joined_contents
same_contents c cs = ap (λ n. with_records n c) (no_more_records c cs)

with_one : (c : Contents) (cs : List Contents) → CanJoin (c ∷ cs) → CanJoin (with_empty c cs)
with_one c cs can = record {
  record_dimension = can.record_dimension;
  same = All-append (HaveSameShape c) (c ∷ cs) (with_records 0 c ∷ []) can.same
      (All-cons (HaveSameShape c) (with_records 0 c) [] (record { dimensions = refl; variables = refl }) (All-nil (HaveSameShape c)));
  few = subst (λ n. n ≤ most_elements) (sym (no_more_records c cs)) can.few;
}

without_one : (c : Contents) (cs : List Contents) → CanJoin (with_empty c cs) → CanJoin (c ∷ cs)
without_one c cs can = record {
  record_dimension = can.record_dimension;
  same = all_front (HaveSameShape c) (c ∷ cs) (with_records 0 c ∷ []) can.same;
  few = subst (λ n. n ≤ most_elements) (no_more_records c cs) can.few;
}

pub empty_adds_nothing : EmptyAddsNothing
empty_adds_nothing c cs = (same_contents c cs, with_one c cs, without_one c cs)
