-- Headers beside the first one.
use Rattle.std.proofs.Common.{◌≡◌, ◌≢◌, ℕ, zero, suc, ◌+◌, ◌<◌, ◌≤◌, Bool, true, false, cond, List, [], ◌∷◌, ◌++◌, All, length, take, drop, get_or, Option, Some, None, refl, sym, ap, ◌∙◌, subst, arith, slice_index_or}
use Rattle.std.proofs.lemmas.List.{length-map, length-take, take-append-drop, drop_more, map-append}
use Rattle.std.specs.List.{list_any}
use Rattle.std.specs.Prelude.{is_some, not}
use Rattle.netcdf_source.specs.File.{FileHeader}
use Rattle.netcdf_source.specs.Grammar.{is_record_dimension}
use Rattle.netcdf_source.specs.Mapping.{records_of, HaveSameShape}
use Rattle.netcdf_source.specs.declared.header.Contents.{Contents}
use Rattle.join_source.proofs.First.{first-is}
use Rattle.join_source.specs.Causes.{FirstToDiffer}
use Rattle.join_source.specs.Members.{contents_of, first_of}

none-same : (b : Bool) (r s : ℕ) → ◌≡◌ {A = Option ℕ} (cond b (Some r) None) None → ◌≡◌ {A = Option ℕ} (cond b (Some s) None) None
none-same true r s e = absurd cc
none-same false r s e = refl

-- a header of the same shape has records too
has-records : (c d : Contents) → HaveSameShape c d → records_of c ≢ None → records_of d ≢ None
has-records c d same some none = some (none-same (list_any is_record_dimension c.dimensions) d.records c.records (ap (λ ds. cond (list_any is_record_dimension ds) (Some d.records) None) same.dimensions ∙ none))

contents-at : (headers : List FileHeader) (k : ℕ) (d : FileHeader) → k < length headers → get_or (contents_of headers) k d.contents ≡ (get_or headers k d).contents
contents-at [] k d lt = absurd (omega (arith, lt))
contents-at (h ∷ headers) zero d lt = refl
contents-at (h ∷ headers) (suc k) d lt = contents-at headers k d (omega (arith, lt))

pub told-some : (o r : Option ℕ) (b : Bool) → r ≡ o → is_some r ≡ not b → b ≡ false → o ≢ None
told-some o r b e f g none = wrong (sym (ap is_some (e ∙ none)) ∙ f ∙ ap not g)
  where
    wrong : ◌≡◌ {A = Bool} false true → ⊥
    wrong p = cc

pub each-has-records : (headers : List FileHeader) (f d : FileHeader) → 1 ≤ length headers → records_of (slice_index_or headers 0 f).contents ≢ None → All (HaveSameShape (first_of (contents_of headers))) (contents_of headers)
    → (k : ℕ) → k < length headers → records_of (slice_index_or headers k d).contents ≢ None
each-has-records headers f d some has all k lt =
    let long : k < length (contents_of headers) = omega (arith, lt, length-map headers (λ h. h.contents)) in
    let first : records_of (first_of (contents_of headers)) ≢ None = subst (λ c. records_of c ≢ None) (sym (first-is headers f some)) has in
    has-records (first_of (contents_of headers)) (slice_index_or headers k d).contents (subst (HaveSameShape (first_of (contents_of headers))) (contents-at headers k d lt) (all k d.contents long)) first

pub first-differs : (headers : List FileHeader) (k : ℕ) (f other : FileHeader) (r : Bool) → 1 ≤ length headers → k < length headers → f ≡ slice_index_or headers 0 f → other ≡ slice_index_or headers k other
    → All (HaveSameShape (first_of (contents_of headers))) (contents_of (take k headers)) → (HaveSameShape f.contents other.contents → r ≡ true) → r ≡ false → FirstToDiffer (contents_of headers) (k + 1)
first-differs headers k f other r some lt f-is is before told unlike = record {
  before = contents_of (take k headers);
  other = other.contents;
  behind = contents_of (drop (k + 1) headers);
  parts = ap contents_of (sym (take-append-drop k headers) ∙ ap (λ hs. take k headers ++ hs) (drop_more headers k other lt ∙ ap (λ h. h ∷ drop (k + 1) headers) (sym is)))
      ∙ map-append (λ h. h.contents) (take k headers) (other ∷ drop (k + 1) headers);
  number = ap (λ n. n + 1) (sym (length-map (take k headers) (λ h. h.contents) ∙ short));
  same = before;
  differs = λ same. clash (told (subst (λ c. HaveSameShape c other.contents) (first-is headers f some ∙ ap (λ h. h.contents) (sym f-is)) same)) unlike;
}
  where
    short : length (take k headers) ≡ k
    short = omega (arith, lt, length-take k headers)

    clash : r ≡ true → r ≡ false → ⊥
    clash e g = wrong (sym e ∙ g)
      where
        wrong : ◌≡◌ {A = Bool} true false → ⊥
        wrong p = cc
