-- The machine reads the tokens of each dataset to their end, and says of each token whether its slot
-- is broken.
use Rattle.std.proofs.Common.{◌≡◌, ℕ, ◌+◌, List, [], ◌∷◌, ◌++◌, length, drop, true, false, nat_lt, Option, Some, None, refl, sym, ap, ap₂, subst, ◌∙◌, append_assoc, append-nil, codes, arith}
use Rattle.std.specs.List.{list_all, list_any}
use Rattle.std.specs.Str.{bytes_eq}
use Rattle.plain_lemmas.proofs.Truths.{both_true}
use Rattle.dap_types.specs.Model.{Member, scalar, array, structure, grid, sequence, Members, no_members, member, Dataset, name_of, count, sizes}
use Rattle.dap_types.specs.declared.declarations.ArrayDecl.{ArrayDecl}
use Rattle.dap_types.specs.declared.declarations.Column.{Column}
use Rattle.dap_model.specs.Dds.{type_word}
use Rattle.dap_model.specs.Grammar.{keyword, name, sign, Judged, fine, opens, closes, semicolon, colon, head, named, dim_slots, array_slots, column_slots, map_slots, slots, slots_all, dataset_slots, has_dims, have_dims, all_have_dims, StandsFor}
use Rattle.dap_model.specs.Tokens.{Token}
use Rattle.dds_text.specs.inner.Machine.{moved, keeps, kind_word, Steps}
use Rattle.dds_text.specs.inner.States.{Levels, top, within, variable, column, grid_array, grid_map, typed, Kind, structures, sequences, grids, entered, arrayed, ready, filled, mapping, Whole, whole_structure, whole_sequence, whole_grid, State, begun, headed, inside, declaring, opening, in_sequence, in_grid, in_maps, closed, called, dataset_closed, dataset_called, ended, depth_of, next_number, members_in, add, is_name_of, is_name_of_column, is_name_of_map, is_past, is_out, wanted_size, with_name, behind_brace}
use Rattle.dds_text.proofs.LevelFacts.{SameNames, Suits, added_suits, top_suits, within_suits, columns_last, maps_last, add_all, add_all_top, add_all_within, list_of, members_of_list, length_last, first_of, rest_of, slice_get-drop, drop-one}
use Rattle.dds_text.proofs.Runs.{Goes, Runs, flags_in, run_none, run_one, run_both}
use Rattle.dds_text.proofs.SlotSteps.{by_sign, by_name, wanted_goes, type_in_level, type_in_sequence, type_in_grid, type_in_maps, kind_in_level, scalar_run, array_run}

past_same : (depth n depth' n' : ℕ) → depth ≡ depth' → n ≡ n' → is_past depth n ≡ is_past depth' n'
past_same depth n depth' n' deep number = ap₂ is_past deep number

columns_run : (levels : Levels) (done columns : List Column) (depth n : ℕ) (before : List (List ℕ)) → depth ≡ depth_of levels + 1 → n ≡ next_number levels + 1 + length done → SameNames (is_name_of_column done) before
    → Runs (in_sequence levels done) (column_slots depth n before columns) (in_sequence levels (done ++ columns))
columns_run levels done [] depth n before deep number names =
    subst (λ cs. Runs (in_sequence levels done) [] (in_sequence levels cs)) (sym (append-nil done)) (run_none (in_sequence levels done))
columns_run levels done (c ∷ columns) depth n before deep number names =
    let from = in_sequence levels done in
    let one = in_sequence levels (done ++ c ∷ []) in
    let typed' = declaring levels (column done) (typed c.base) in
    let own : List Judged = named before c.name ∷ semicolon ∷ [] in
    let first : Judged = head depth n (type_word c.base) in
    let here = run_one from typed' one first own (type_in_sequence levels done c.base first.broken (past_same _ _ depth n (sym deep) (sym number)))
    (scalar_run levels (column done) c (list_any (bytes_eq c.name) before) one (names c.name) refl) in
    let counted : n + 1 ≡ next_number levels + 1 + length (done ++ c ∷ []) = omega (arith, number, length_last done c) in
    let rest = columns_run levels (done ++ c ∷ []) columns depth (n + 1) (c.name ∷ before) deep counted (columns_last done c before names) in
    subst (λ cs. Runs from (column_slots depth n before (c ∷ columns)) (in_sequence levels cs)) (append_assoc done (c ∷ []) columns)
    (run_both from one (in_sequence levels ((done ++ c ∷ []) ++ columns)) (first ∷ own) (column_slots depth (n + 1) (c.name ∷ before) columns) here rest)

-- a map, where its size is wanted and where no map is
one_map : (levels : Levels) (g : ArrayDecl) (done : List ArrayDecl) (m : ArrayDecl) (first : Judged) (wanted : Option ℕ) (before : List (List ℕ)) → first.slot ≡ keyword (type_word m.base) → is_out levels (grid_map g done) ≡ first.broken
    → wanted_size (grid_map g done) ≡ wanted → SameNames (is_name_of_map g done) before → has_dims m ≡ true
    → Runs (in_maps levels g done) (array_slots 1 wanted first before m) (in_maps levels g (done ++ m ∷ []))
one_map levels g done m first wanted before word out same names some =
    let from = in_maps levels g done in
    let to = in_maps levels g (done ++ m ∷ []) in
    let typed' = declaring levels (grid_map g done) (typed m.base) in
    subst (λ w. Runs from (array_slots 1 w first before m) to) same
    (run_one from typed' to first (named before m.name ∷ dim_slots 1 (wanted_size (grid_map g done)) 1 m.dims ++ semicolon ∷ [])
    (subst (λ s. Goes from (record { slot = s; broken = first.broken }) typed') (sym word) (type_in_maps levels g done m.base first.broken out))
    (array_run levels (grid_map g done) m 1 (list_any (bytes_eq m.name) before) to refl refl some (names m.name) refl))

maps_run : (levels : Levels) (g : ArrayDecl) (done maps : List ArrayDecl) (depth n : ℕ) (before : List (List ℕ)) (wanted : List ℕ) → depth ≡ depth_of levels + 1 → n ≡ next_number levels + 2 + length done
    → SameNames (is_name_of_map g done) before → drop (length done) (sizes g) ≡ wanted → list_all has_dims maps ≡ true
    → Runs (in_maps levels g done) (map_slots depth n before wanted maps) (in_maps levels g (done ++ maps))
maps_run levels g done [] depth n before wanted deep number names left some =
    subst (λ ms. Runs (in_maps levels g done) [] (in_maps levels g ms)) (sym (append-nil done)) (run_none (in_maps levels g done))
maps_run levels g done (m ∷ maps) depth n before [] deep number names left some =
    let from = in_maps levels g done in
    let one = in_maps levels g (done ++ m ∷ []) in
    let all = both_true (has_dims m) (list_all has_dims maps) some in
    let none : wanted_size (grid_map g done) ≡ None = slice_get-drop (sizes g) (length done) ∙ ap first_of left in
    let first : Judged = record { slot = keyword (type_word m.base); broken = true } in
    let out : is_out levels (grid_map g done) ≡ true = rw none refl in
    let counted : n + 1 ≡ next_number levels + 2 + length (done ++ m ∷ []) = omega (arith, number, length_last done m) in
    let after : drop (length (done ++ m ∷ [])) (sizes g) ≡ [] = ap (λ k. drop k (sizes g)) (length_last done m) ∙ drop-one (sizes g) (length done) ∙ ap rest_of left in
    let rest = maps_run levels g (done ++ m ∷ []) maps depth (n + 1) (m.name ∷ before) [] deep counted (maps_last g done m before names) after all.1 in
    subst (λ ms. Runs from (map_slots depth n before [] (m ∷ maps)) (in_maps levels g ms)) (append_assoc done (m ∷ []) maps)
    (run_both from one (in_maps levels g ((done ++ m ∷ []) ++ maps)) (array_slots 1 None first before m) (map_slots depth (n + 1) (m.name ∷ before) [] maps)
    (one_map levels g done m first None before refl out none names all.0) rest)
maps_run levels g done (m ∷ maps) depth n before (w ∷ wanted) deep number names left some =
    let from = in_maps levels g done in
    let one = in_maps levels g (done ++ m ∷ []) in
    let all = both_true (has_dims m) (list_all has_dims maps) some in
    let size_is : wanted_size (grid_map g done) ≡ Some w = slice_get-drop (sizes g) (length done) ∙ ap first_of left in
    let first : Judged = head depth n (type_word m.base) in
    let out : is_out levels (grid_map g done) ≡ is_past depth n = rw size_is (past_same _ _ depth n (sym deep) (sym number)) in
    let counted : n + 1 ≡ next_number levels + 2 + length (done ++ m ∷ []) = omega (arith, number, length_last done m) in
    let after : drop (length (done ++ m ∷ [])) (sizes g) ≡ wanted = ap (λ k. drop k (sizes g)) (length_last done m) ∙ drop-one (sizes g) (length done) ∙ ap rest_of left in
    let rest = maps_run levels g (done ++ m ∷ []) maps depth (n + 1) (m.name ∷ before) wanted deep counted (maps_last g done m before names) after all.1 in
    subst (λ ms. Runs from (map_slots depth n before (w ∷ wanted) (m ∷ maps)) (in_maps levels g ms)) (append_assoc done (m ∷ []) maps)
    (run_both from one (in_maps levels g ((done ++ m ∷ []) ++ maps)) (array_slots 1 (Some w) first before m) (map_slots depth (n + 1) (m.name ∷ before) wanted maps)
    (one_map levels g done m first (Some w) before refl out size_is names all.0) rest)

-- a whole behind its parts
closing_run : (s : State) (levels : Levels) (whole : Whole) (m : Member) (last : Judged) (before : List (List ℕ)) → Goes s last (closed levels whole) → SameNames (is_name_of (members_in levels)) before → with_name whole (name_of m) ≡ m
    → Runs s (last ∷ named before (name_of m) ∷ semicolon ∷ []) (inside (add levels m))
closing_run s levels whole m last before closes' names same =
    let shut = closed levels whole in
    let own = called levels m in
    let to = inside (add levels m) in
    run_one s shut to last (named before (name_of m) ∷ semicolon ∷ []) closes'
    (run_one shut own to (named before (name_of m)) (semicolon ∷ [])
    (by_name shut own (name_of m) (list_any (bytes_eq (name_of m)) before) (ap₂ (λ x b. Some (moved (called levels x) b)) same (names (name_of m))))
    (run_one own to to semicolon [] (by_sign own to 59 false refl) (run_none to)))

-- a whole before its parts
opening_run : (levels : Levels) (kind : Kind) (depth n : ℕ) (parts : List Judged) (to : State) → depth ≡ depth_of levels → n ≡ next_number levels → Runs (behind_brace levels kind) parts to
    → Runs (inside levels) (head depth n (kind_word kind) ∷ opens ∷ parts) to
opening_run levels kind depth n parts to deep number run =
    let first : Judged = head depth n (kind_word kind) in
    run_one (inside levels) (opening levels kind) to first (opens ∷ parts) (kind_in_level levels kind first.broken (past_same _ _ depth n (sym deep) (sym number)))
    (run_one (opening levels kind) (behind_brace levels kind) to opens parts (by_sign (opening levels kind) (behind_brace levels kind) 123 false refl) run)

grid_run : (levels : Levels) (own : List ℕ) (a : ArrayDecl) (maps : List ArrayDecl) (depth n : ℕ) (before : List (List ℕ)) → depth ≡ depth_of levels → n ≡ next_number levels → SameNames (is_name_of (members_in levels)) before → list_all has_dims (a ∷ maps) ≡ true
    → Runs (inside levels) (slots depth n before (grid own a maps)) (inside (add levels (grid own a maps)))
grid_run levels own a maps depth n before deep number names some =
    let all = both_true (has_dims a) (list_all has_dims maps) some in
    let to = inside (add levels (grid own a maps)) in
    let arr : List Judged = array_slots 32 None (head (depth + 1) (n + 1) (type_word a.base)) [] a in
    let of_maps : List Judged = map_slots (depth + 1) (n + 2) (a.name ∷ []) (sizes a) maps in
    let last : Judged = record { slot = sign 125; broken = nat_lt (length maps) (length a.dims) } in
    let end : List Judged = last ∷ named before own ∷ semicolon ∷ [] in
    let is_array = in_grid levels ready in
    let deeper : depth_of levels + 1 ≡ depth + 1 = ap (λ k. k + 1) (sym deep) in
    let array' : Runs is_array arr (in_grid levels (filled a)) =
    run_one is_array (declaring levels grid_array (typed a.base)) (in_grid levels (filled a)) (head (depth + 1) (n + 1) (type_word a.base)) (named [] a.name ∷ dim_slots 32 None 1 a.dims ++ semicolon ∷ [])
    (type_in_grid levels a.base (is_past (depth + 1) (n + 1)) (past_same _ _ (depth + 1) (n + 1) deeper (ap (λ k. k + 1) (sym number))))
    (array_run levels grid_array a 32 false (in_grid levels (filled a)) refl refl all.0 refl refl) in
    let maps' = maps_run levels a [] maps (depth + 1) (n + 2) (a.name ∷ []) (sizes a) (sym deeper) (omega (arith, number)) (λ w. refl) refl all.1 in
    let shut : Goes (in_maps levels a maps) last (closed levels (whole_grid a maps)) = by_sign (in_maps levels a maps) (closed levels (whole_grid a maps)) 125 last.broken refl in
    let end' = closing_run (in_maps levels a maps) levels (whole_grid a maps) (grid own a maps) last before shut names refl in
    let behind = run_both (in_maps levels a []) (in_maps levels a maps) to of_maps end maps' end' in
    let word_maps = run_one (in_grid levels (filled a)) (in_grid levels (mapping a)) to (fine (keyword (codes "Maps"))) (colon ∷ of_maps ++ end) (wanted_goes (keyword (codes "Maps")) (in_grid levels (mapping a)))
    (run_one (in_grid levels (mapping a)) (in_maps levels a []) to colon (of_maps ++ end) (by_sign (in_grid levels (mapping a)) (in_maps levels a []) 58 false refl) behind) in
    let from_array = run_both is_array (in_grid levels (filled a)) to arr (fine (keyword (codes "Maps")) ∷ colon ∷ of_maps ++ end) array' word_maps in
    let parts = run_one (in_grid levels entered) (in_grid levels arrayed) to (fine (keyword (codes "Array"))) (colon ∷ arr ++ (fine (keyword (codes "Maps")) ∷ colon ∷ of_maps ++ end))
    (wanted_goes (keyword (codes "Array")) (in_grid levels arrayed))
    (run_one (in_grid levels arrayed) is_array to colon (arr ++ (fine (keyword (codes "Maps")) ∷ colon ∷ of_maps ++ end)) (by_sign (in_grid levels arrayed) is_array 58 false refl) from_array) in
    opening_run levels grids depth n (fine (keyword (codes "Array")) ∷ colon ∷ (arr ++ (fine (keyword (codes "Maps")) ∷ colon ∷ of_maps)) ++ end) to deep number
    (subst (λ js. Runs (in_grid levels entered) (fine (keyword (codes "Array")) ∷ colon ∷ js) to) (sym (append_assoc arr (fine (keyword (codes "Maps")) ∷ colon ∷ of_maps) end)) parts)

mutual
  member_run : (m : Member) (levels : Levels) (depth n : ℕ) (before : List (List ℕ)) → Suits levels depth n before → have_dims m ≡ true → Runs (inside levels) (slots depth n before m) (inside (add levels m))
  member_run (scalar c) levels depth n before (deep, number, names) some =
      let to = inside (add levels (scalar c)) in
      let first : Judged = head depth n (type_word c.base) in
      run_one (inside levels) (declaring levels variable (typed c.base)) to first (named before c.name ∷ semicolon ∷ [])
      (type_in_level levels c.base first.broken (past_same _ _ depth n (sym deep) (sym number)))
      (scalar_run levels variable c (list_any (bytes_eq c.name) before) to (names c.name) refl)
  member_run (array a) levels depth n before (deep, number, names) some =
      let to = inside (add levels (array a)) in
      let first : Judged = head depth n (type_word a.base) in
      run_one (inside levels) (declaring levels variable (typed a.base)) to first (named before a.name ∷ dim_slots 32 None 1 a.dims ++ semicolon ∷ [])
      (type_in_level levels a.base first.broken (past_same _ _ depth n (sym deep) (sym number)))
      (array_run levels variable a 32 (list_any (bytes_eq a.name) before) to refl refl some (names a.name) refl)
  member_run (structure own parts) levels depth n before (deep, number, names) some =
      let inner = slots_all (depth + 1) (n + 1) [] parts in
      let end : List Judged = closes ∷ named before own ∷ semicolon ∷ [] in
      let whole = whole_structure (list_of parts) in
      let last = inside (within levels (list_of parts)) in
      let to = inside (add levels (structure own parts)) in
      let parts' = members_run parts (within levels []) (depth + 1) (n + 1) [] (within_suits levels depth n before (deep, number, names)) some in
      let parts'' = subst (λ z. Runs (inside (within levels [])) inner (inside z)) (add_all_within levels [] parts) parts' in
      opening_run levels structures depth n (inner ++ end) to deep number
      (run_both (inside (within levels [])) last to inner end parts''
      (closing_run last levels whole (structure own parts) closes before (by_sign last (closed levels whole) 125 false refl) names (ap (structure own) (members_of_list parts))))
  member_run (grid own a maps) levels depth n before (deep, number, names) some = grid_run levels own a maps depth n before deep number names some
  member_run (sequence own columns) levels depth n before (deep, number, names) some =
      let inner = column_slots (depth + 1) (n + 1) [] columns in
      let end : List Judged = closes ∷ named before own ∷ semicolon ∷ [] in
      let whole = whole_sequence columns in
      let last = in_sequence levels columns in
      let to = inside (add levels (sequence own columns)) in
      let parts' = columns_run levels [] columns (depth + 1) (n + 1) [] (ap (λ k. k + 1) deep) (omega (arith, number)) (λ w. refl) in
      opening_run levels sequences depth n (inner ++ end) to deep number
      (run_both (in_sequence levels []) last to inner end parts'
      (closing_run last levels whole (sequence own columns) closes before (by_sign last (closed levels whole) 125 false refl) names refl))

  members_run : (ms : Members) (levels : Levels) (depth n : ℕ) (before : List (List ℕ)) → Suits levels depth n before → all_have_dims ms ≡ true
      → Runs (inside levels) (slots_all depth n before ms) (inside (add_all levels ms))
  members_run no_members levels depth n before suits some = run_none (inside levels)
  members_run (member m ms) levels depth n before suits some =
      let both = both_true (have_dims m) (all_have_dims ms) some in
      run_both (inside levels) (inside (add levels m)) (inside (add_all (add levels m) ms)) (slots depth n before m) (slots_all depth (n + count m) (name_of m ∷ before) ms)
      (member_run m levels depth n before suits both.0)
      (members_run ms (add levels m) depth (n + count m) (name_of m ∷ before) (added_suits levels m depth n before suits) both.1)

-- the machine reads a dataset to its end
pub complete : (ts : List Token) (d : Dataset) → StandsFor ts d → Steps begun ts (flags_in (dataset_slots d)) (ended d)
complete ts d stands =
    let inner = slots_all 1 1 [] d.members in
    let own : Judged = fine (name d.name) in
    let last = inside (top (list_of d.members)) in
    let shut = dataset_closed (list_of d.members) in
    let parts = subst (λ z. Runs (inside (top [])) inner (inside z)) (add_all_top [] d.members) (members_run d.members (top []) 1 1 [] top_suits stands.0) in
    let end = run_one last shut (ended d) closes (own ∷ semicolon ∷ []) (by_sign last shut 125 false refl)
    (run_one shut (dataset_called d) (ended d) own (semicolon ∷ []) (by_name shut (dataset_called d) d.name false (ap (λ ms. Some (keeps (dataset_called (record { name = d.name; members = ms })))) (members_of_list d.members)))
    (run_one (dataset_called d) (ended d) (ended d) semicolon [] (by_sign (dataset_called d) (ended d) 59 false refl) (run_none (ended d)))) in
    let whole = run_one begun headed (ended d) (fine (keyword (codes "Dataset"))) (opens ∷ inner ++ closes ∷ own ∷ semicolon ∷ []) (wanted_goes (keyword (codes "Dataset")) headed)
    (run_one headed (inside (top [])) (ended d) opens (inner ++ closes ∷ own ∷ semicolon ∷ []) (by_sign headed (inside (top [])) 123 false refl)
    (run_both (inside (top [])) last (ended d) inner (closes ∷ own ∷ semicolon ∷ []) parts end)) in
    whole ts stands.1
