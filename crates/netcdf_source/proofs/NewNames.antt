-- Names of a list of a header, whatever their order.
use Rattle.std.proofs.Common.{◌≡◌, ℕ, List, [], ◌∷◌, length, map, Bool, Ordering, Less, Equal, Greater, Result, Ok, Err, ap, ◌∙◌, refl}
use Rattle.std.specs.BTreeMap.{is_at}
use Rattle.std.specs.BTreeSet.{insert_key}
use Rattle.std.specs.Borrow.{Bor}
use Rattle.std.specs.Cmp.Lexicographic.{slice_cmp}
use Rattle.std.specs.List.{list_any}
use Rattle.std.specs.Ordering.{match_ordering, nat_cmp}
use Rattle.std.specs.Str.{bytes_eq}
use Rattle.std.proofs.lemmas.Map.Text.{is_eq-slice_cmp}
use Rattle.dap_types.specs.NameSet.{AreSameNames}
use Rattle.netcdf_source.specs.Fields.{bad_if}
use Rattle.netcdf_source.specs.Grammar.{name_fault, repeat_fault}
use Rattle.netcdf_source.specs.inner.Reading.{◌>>=◌, passed, judged_at, run_at, new_name_at, dimension_at, variable_at}
use Rattle.netcdf_source.specs.Versions.{bytes_in, number_width}
use Rattle.netcdf_source.specs.declared.version.Version.{Version}
use Rattle.netcdf_source.specs.declared.version.Width.{Width}
use Rattle.netcdf_source.specs.declared.header.Dimension.{Dimension}
use Rattle.netcdf_source.specs.declared.failure.Failure.{Failure}

-- a name is found by its order where it is one of them
pub found : (name : List ℕ) (names : List (Bor (List ℕ))) → list_any (is_at (λ k. slice_cmp nat_cmp name k.now)) names ≡ list_any (bytes_eq name) (map (λ k. k.now) names)
found name [] = refl
found name (x ∷ names) = rw (is_eq-slice_cmp name x.now, found name names) refl

-- a set of borrowed names, seen as their bytes
seen_before : (name x : Bor (List ℕ)) (names more : List (Bor (List ℕ))) (o : Ordering)
    → map (λ k. k.now) (match_ordering o (name ∷ x ∷ names) (x ∷ names) (x ∷ more))
    ≡ match_ordering o (name.now ∷ x.now ∷ map (λ k. k.now) names) (x.now ∷ map (λ k. k.now) names) (x.now ∷ map (λ k. k.now) more)
seen_before name x names more Less = refl
seen_before name x names more Equal = refl
seen_before name x names more Greater = refl

pub seen : (name : Bor (List ℕ)) (names : List (Bor (List ℕ)))
    → map (λ k. k.now) (insert_key (λ x y. slice_cmp nat_cmp x.now y.now) names name) ≡ insert_key (slice_cmp nat_cmp) (map (λ k. k.now) names) name.now
seen name [] = refl
seen name (x ∷ names) =
    seen_before name x names (insert_key (λ x y. slice_cmp nat_cmp x.now y.now) names name) (slice_cmp nat_cmp name.now x.now)
    ∙ ap (λ l. match_ordering (slice_cmp nat_cmp name.now x.now) (name.now ∷ x.now ∷ map (λ k. k.now) names) (x.now ∷ map (λ k. k.now) names) (x.now ∷ l)) (seen name names)

module _ (width : Width) (earlier others : List (List ℕ)) (same : AreSameNames earlier others) where
  same_repeat : (name : List ℕ) → repeat_fault width earlier name ≡ repeat_fault width others name
  unfolding repeat_fault
  same_repeat name = ap (λ b. bad_if b (bytes_in width)) (same name)

  same_run : (n : ℕ) (bytes : List ℕ) (r : Result (List ℕ × List ℕ) Failure)
      → (r >>= λ name. passed (repeat_fault width earlier name.0) n name) ≡ (r >>= λ name. passed (repeat_fault width others name.0) n name)
  same_run n bytes (Err e) = refl
  same_run n bytes (Ok name) = ap (λ f. passed f n name) (same_repeat name.0)

  same_length : (r : Result (ℕ × List ℕ) Failure)
      → (r >>= λ n. run_at n.0 n.1 >>= λ name. passed (repeat_fault width earlier name.0) (length n.1) name)
      ≡ (r >>= λ n. run_at n.0 n.1 >>= λ name. passed (repeat_fault width others name.0) (length n.1) name)
  same_length (Err e) = refl
  same_length (Ok n) = same_run (length n.1) n.1 (run_at n.0 n.1)

  pub same_name : (bytes : List ℕ) → new_name_at width earlier bytes ≡ new_name_at width others bytes
  unfolding new_name_at
  same_name bytes = same_length (judged_at width name_fault bytes)

  pub same_dimension : (has_records : Bool) (bytes : List ℕ) → dimension_at width earlier has_records bytes ≡ dimension_at width others has_records bytes
  unfolding dimension_at
  same_dimension has_records bytes = rw (same_name bytes) refl

pub same_variable : (version : Version) (earlier others : List (List ℕ)) (same : AreSameNames earlier others) (dims : List Dimension) (sum : ℕ) (bytes : List ℕ)
    → variable_at version dims earlier sum bytes ≡ variable_at version dims others sum bytes
unfolding variable_at
same_variable version earlier others same dims sum bytes = rw (same_name (number_width version) earlier others same bytes) refl
