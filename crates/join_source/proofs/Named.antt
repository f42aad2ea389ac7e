-- With another number of records the names in a dataset are the same.
use Rattle.std.proofs.Common.{◌≡◌, ℕ, ◌+◌, ◌≤◌, Bool, true, false, ◌&&◌, cond, IsTrue, List, [], ◌∷◌, ◌++◌, map, filter, All, Option, Some, None, refl, sym, ap, subst, ◌∙◌, arith}
use Rattle.std.proofs.lemmas.List.{map-append}
use Rattle.std.proofs.lemmas.List.Elements.{All-cons, All-nil}
use Rattle.std.proofs.lemmas.List.Sums.{sum_by-cons}
use Rattle.std.specs.List.{cons_option, list_all}
use Rattle.std.specs.Option.{option_map_or}
use Rattle.std.specs.Prelude.{option_map, option_and_then, slice_get}
use Rattle.dap_types.proofs.Preorder.{preorder-places}
use Rattle.dap_types.specs.Model.{Member, array, grid, scalar, members_of}
use Rattle.dap_types.specs.Names.{file_id}
use Rattle.dap_types.specs.Preorder.{preorder, preorder_all}
use Rattle.dap_types.specs.WellFormed.{Place, places_of}
use Rattle.dap_types.specs.declared.declarations.Dim.{Dim}
use Rattle.dap_model.proofs.Values.{all_first, all_rest}
use Rattle.dap_model.specs.Grammar.{HasWords, are_words}
use Rattle.dap_model.specs.Tokens.{is_word}
use Rattle.netcdf_source.proofs.HeaderNames.{dataset_has_words}
use Rattle.netcdf_source.specs.Mapping.{array_of, column_of, coordinate_at, coordinate_variable, dataset_of, dim_of, element_dimensions, has_texts, is_empty, is_grid, is_offered, maps_of, member_of, name_at, with_records}
use Rattle.netcdf_source.specs.declared.header.Contents.{Contents}
use Rattle.netcdf_source.specs.declared.header.Variable.{Variable}
use Rattle.join_source.proofs.Shapes.{coordinate-same, grid-same, offered-same}
use Rattle.join_source.specs.Members.{all_records, joined_contents}
use Rattle.join_source.specs.Served.{JoinedHasWords}

abbrev has_word : Dim → Bool
has_word d = option_map_or is_word d.name true

-- whether each of a member and its parts has words for names
abbrev words_in : Member → List Bool
words_in m = map are_words (preorder m)

module _ (c : Contents) (n : ℕ) (few : c.records ≤ 2147483647) (small : n ≤ 2147483647) where
  offered-with : (v : Variable) → is_offered (with_records n c) v ≡ is_offered c v
  offered-with v = offered-same (with_records n c) small v ∙ sym (offered-same c few v)

  grid-with : (v : Variable) → is_grid (with_records n c) v ≡ is_grid c v
  grid-with v = grid-same (with_records n c) small v ∙ sym (grid-same c few v)

  coordinate-with : (i : ℕ) → coordinate_at (with_records n c) i ≡ coordinate_at c i
  coordinate-with i = coordinate-same (with_records n c) small i ∙ sym (coordinate-same c few i)

  dims-with : (ids : List ℕ) → list_all has_word (map (dim_of (with_records n c)) ids) ≡ list_all has_word (map (dim_of c) ids)
  unfolding name_at
  dims-with [] = refl
  dims-with (i ∷ ids) = ap (λ b. has_word (dim_of c i) && b) (dims-with ids)

  array-with : (v : Variable) → are_words (array (array_of (with_records n c) v)) ≡ are_words (array (array_of c v))
  unfolding element_dimensions has_texts
  array-with v = ap (λ b. is_word (file_id v.name) && b) (dims-with (element_dimensions c v))

  maps-with : (ids : List ℕ) → map are_words (map array (maps_of (with_records n c) ids)) ≡ map are_words (map array (maps_of c ids))
  maps-with [] = refl
  maps-with (i ∷ ids) =
      ap (λ o. map are_words (map array (cons_option (option_map (array_of (with_records n c)) (option_and_then (slice_get c.variables) o)) (maps_of (with_records n c) ids)))) (coordinate-with i)
      ∙ go (coordinate_variable c i) (maps-with ids)
    where
      go : (o : Option Variable) → map are_words (map array (maps_of (with_records n c) ids)) ≡ map are_words (map array (maps_of c ids))
          → map are_words (map array (cons_option (option_map (array_of (with_records n c)) o) (maps_of (with_records n c) ids))) ≡ map are_words (map array (cons_option (option_map (array_of c) o) (maps_of c ids)))
      go None rest = rest
      go (Some w) rest =
          ap (λ b. b ∷ map are_words (map array (maps_of (with_records n c) ids))) (array-with w) ∙ ap (λ bs. are_words (array (array_of c w)) ∷ bs) rest

  member-with : (v : Variable) → words_in (member_of (with_records n c) v) ≡ words_in (member_of c v)
  unfolding member_of element_dimensions has_texts
  member-with v =
      ap (λ g. words_in (cond (is_empty (element_dimensions c v)) (scalar (column_of v)) (cond g (grid (file_id v.name) (array_of (with_records n c) v) (maps_of (with_records n c) v.dimensions)) (array (array_of (with_records n c) v))))) (grid-with v)
      ∙ go (is_empty (element_dimensions c v)) (is_grid c v)
    where
      go : (e g : Bool) → words_in (cond e (scalar (column_of v)) (cond g (grid (file_id v.name) (array_of (with_records n c) v) (maps_of (with_records n c) v.dimensions)) (array (array_of (with_records n c) v))))
          ≡ words_in (cond e (scalar (column_of v)) (cond g (grid (file_id v.name) (array_of c v) (maps_of c v.dimensions)) (array (array_of c v))))
      go true g = refl
      go false true =
          ap (λ bs. is_word (file_id v.name) ∷ bs)
          (ap (λ b. b ∷ map are_words (map array (maps_of (with_records n c) v.dimensions))) (array-with v) ∙ ap (λ bs. are_words (array (array_of c v)) ∷ bs) (maps-with v.dimensions))
      go false false = ap (λ b. b ∷ []) (array-with v)

  all-with : (vs : List Variable) → map are_words (preorder_all (members_of (map (member_of (with_records n c)) (filter (is_offered (with_records n c)) vs)))) ≡ map are_words (preorder_all (members_of (map (member_of c) (filter (is_offered c) vs))))
  all-with [] = refl
  all-with (v ∷ vs) =
      ap (λ b. map are_words (preorder_all (members_of (map (member_of (with_records n c)) (cond b (v ∷ filter (is_offered (with_records n c)) vs) (filter (is_offered (with_records n c)) vs)))))) (offered-with v)
      ∙ go (is_offered c v) (all-with vs)
    where
      go : (b : Bool) → map are_words (preorder_all (members_of (map (member_of (with_records n c)) (filter (is_offered (with_records n c)) vs)))) ≡ map are_words (preorder_all (members_of (map (member_of c) (filter (is_offered c) vs))))
          → map are_words (preorder_all (members_of (map (member_of (with_records n c)) (cond b (v ∷ filter (is_offered (with_records n c)) vs) (filter (is_offered (with_records n c)) vs)))))
          ≡ map are_words (preorder_all (members_of (map (member_of c) (cond b (v ∷ filter (is_offered c) vs) (filter (is_offered c) vs)))))
      go true rest =
          map-append are_words (preorder (member_of (with_records n c) v)) (preorder_all (members_of (map (member_of (with_records n c)) (filter (is_offered (with_records n c)) vs))))
          ∙ ap (λ bs. bs ++ map are_words (preorder_all (members_of (map (member_of (with_records n c)) (filter (is_offered (with_records n c)) vs))))) (member-with v)
          ∙ ap (λ bs. words_in (member_of c v) ++ bs) rest
          ∙ sym (map-append are_words (preorder (member_of c v)) (preorder_all (members_of (map (member_of c) (filter (is_offered c) vs)))))
      go false rest = rest

-- ---- member by member

abbrev AreWords : List Bool → Type 0
AreWords bs = All (λ b. b ≡ true) bs

from-words : (ps : List Place) → AreWords (map are_words (map (λ (p : Place). p.variable) ps)) → All (λ p. IsTrue (are_words p.variable)) ps
from-words [] all = All-nil (λ (p : Place). are_words p.variable ≡ true)
from-words (p ∷ ps) all =
    All-cons (λ (q : Place). are_words q.variable ≡ true) p ps (all_first (λ b. b ≡ true) (are_words p.variable) (map are_words (map (λ (q : Place). q.variable) ps)) all)
    (from-words ps (all_rest (λ b. b ≡ true) (are_words p.variable) (map are_words (map (λ (q : Place). q.variable) ps)) all))

to-words : (ps : List Place) → All (λ p. IsTrue (are_words p.variable)) ps → AreWords (map are_words (map (λ (p : Place). p.variable) ps))
to-words [] all = All-nil (λ b. b ≡ true)
to-words (p ∷ ps) all =
    All-cons (λ b. b ≡ true) (are_words p.variable) (map are_words (map (λ (q : Place). q.variable) ps)) (all_first (λ (q : Place). are_words q.variable ≡ true) p ps all)
    (to-words ps (all_rest (λ (q : Place). are_words q.variable ≡ true) p ps all))

words-with : (c : Contents) (n : ℕ) (name : List ℕ) → c.records ≤ 2147483647 → n ≤ 2147483647 → HasWords (dataset_of c name) → HasWords (dataset_of (with_records n c) name)
words-with c n name few small words =
    let here : AreWords (map are_words (preorder_all (dataset_of c name).members)) = subst (λ ms. AreWords (map are_words ms)) (preorder-places (dataset_of c name).members 1 []) (to-words (places_of (dataset_of c name)) words.inside) in
    let there : AreWords (map are_words (preorder_all (dataset_of (with_records n c) name).members)) = subst AreWords (sym (all-with c n few small c.variables)) here in
    record {
      own = words.own;
      inside = from-words (places_of (dataset_of (with_records n c) name)) (subst (λ ms. AreWords (map are_words ms)) (sym (preorder-places (dataset_of (with_records n c) name).members 1 [])) there);
    }

pub joined_has_words : JoinedHasWords
unfolding joined_contents
joined_has_words [] files name can have name_bytes some = absurd (can.record_dimension refl)
joined_has_words (c ∷ cs) [] name can have name_bytes some = absurd have
joined_has_words (c ∷ cs) (file ∷ files) name can have name_bytes some =
    let sum : all_records (c ∷ cs) ≡ c.records + all_records cs = sum_by-cons (λ x. x.records) c cs in
    words-with c (all_records (c ∷ cs)) name (omega (arith, sum, can.few)) can.few (dataset_has_words c name file have.0 name_bytes some)
