-- A token list of the grammar breaks no rule exactly where its dataset is well formed.
use Rattle.std.proofs.Common.{◌≡◌, ℕ, suc, ◌+◌, ◌≤◌, List, [], ◌∷◌, ◌++◌, length, map, All, Contains, true, false, ◌&&◌, ◌||◌, not, ◌==◌, nat_lt, nat_le, Option, Some, None, refl, ap, codes, arith}
use Rattle.std.proofs.lemmas.Bool.{false≢true, or_parts, or_from}
use Rattle.std.proofs.lemmas.Bool.Decides.{nat_tests}
use Rattle.std.proofs.lemmas.List.{length-map}
use Rattle.std.specs.Char.{is_ascii_digit}
use Rattle.std.specs.Cmp.Lexicographic.{pointwise}
use Rattle.std.specs.Str.Parse.{digits_value}
use Rattle.std.specs.List.{list_all, list_any}
use Rattle.std.specs.Str.{bytes_eq}
use Rattle.plain_lemmas.proofs.Numbers.{not_less}
use Rattle.plain_lemmas.proofs.Truths.{both_true}
use Rattle.dap_types.proofs.Rules.{Obeys, earlier-Decides, false_from_not, all_obey_where_well_formed, well_formed_where_all_obey}
use Rattle.dap_types.proofs.Faults.{length-places}
use Rattle.dap_types.specs.Model.{Member, scalar, array, structure, grid, sequence, Members, no_members, member, Dataset, name_of, count, count_all, sizes}
use Rattle.dap_types.specs.WellFormed.{Place, place, places, part_places, leaf_places, IsWellFormed}
use Rattle.dap_types.specs.declared.declarations.ArrayDecl.{ArrayDecl}
use Rattle.dap_types.specs.declared.declarations.Column.{Column}
use Rattle.dap_types.specs.declared.declarations.Dim.{Dim}
use Rattle.dap_model.proofs.Values.{all_first, all_rest, all_front, all_back}
use Rattle.dap_model.specs.Dds.{type_word}
use Rattle.dap_model.specs.Tokens.{Token}
use Rattle.dap_model.specs.Tokens as token
use Rattle.dap_model.specs.Grammar.{StandsFor, spells, Slot, keyword, name, size, sign, Judged, fine, closes, semicolon, colon, head, named, is_other, size_slots, dim_slots, scalar_slots, array_slots, column_slots, map_slots, whole_slots, slots, slots_all, dataset_slots}
use Rattle.dap_model.proofs.Judging.{Each, each_append, Kept, Small, Good, MapsOf, with_keywords, whole_kept, kept_all_obey}

kept_head : (depth n : ℕ) → depth ≤ 16 → n ≤ 1000000 → (nat_lt 16 depth || nat_lt 1000000 n) ≡ false
kept_head depth n shallow few = or_from (nat_lt 16 depth) (nat_lt 1000000 n) (not_less 16 depth shallow) (not_less 1000000 n few)

kept_name : (before : List (List ℕ)) (own : List ℕ) → ¬ Contains before own → list_any (bytes_eq own) before ≡ false
kept_name before own differs = false_from_not (list_any (bytes_eq own) before) (earlier-Decides own before) differs

kept_size : (own : Option (List ℕ)) (wanted : Option ℕ) (n : ℕ) → is_other wanted n ≡ false → Each Kept (size_slots wanted own n)
kept_size None wanted n same = (refl, (same, tt))
kept_size (Some dim) wanted n same = (refl, (refl, (same, (refl, tt))))

kept_dims : (most k : ℕ) (dims : List Dim) → length dims + k ≤ most + 1 → Each Kept (dim_slots most None k dims)
kept_dims most k [] few = tt
kept_dims most k (dim ∷ dims) few = (
  not_less most k (omega arith),
  each_append Kept (size_slots None dim.name dim.size) (dim_slots most None (k + 1) dims) (kept_size dim.name None dim.size refl) (kept_dims most (k + 1) dims (omega arith)),
)

kept_array : (depth n : ℕ) (before : List (List ℕ)) (a : ArrayDecl) → Obeys (place depth before (array a)) → n ≤ 1000000 → Each Kept (array_slots 32 None (head depth n (type_word a.base)) before a)
kept_array depth n before a keeps few = (
  kept_head depth n keeps.shallow few,
  (
    kept_name before a.name keeps.name_differs,
    each_append Kept (dim_slots 32 None 1 a.dims) (semicolon ∷ []) (kept_dims 32 1 a.dims (omega (arith, keeps.sized.1))) (refl, tt),
  ),
)

kept_columns : (depth n : ℕ) (before : List (List ℕ)) (columns : List Column) → All Obeys (leaf_places depth before (map scalar columns)) → n + length columns ≤ 1000001
    → Each Kept (column_slots depth n before columns)
kept_columns depth n before [] obey few = tt
kept_columns depth n before (c ∷ columns) obey few =
    let later = leaf_places depth (c.name ∷ before) (map scalar columns) in
    let here = all_first Obeys (place depth before (scalar c)) later obey in
    each_append Kept (scalar_slots depth n before c) (column_slots depth (n + 1) (c.name ∷ before) columns)
    (kept_head depth n here.shallow (omega arith), (kept_name before c.name here.name_differs, (refl, tt)))
    (kept_columns depth (n + 1) (c.name ∷ before) columns (all_rest Obeys (place depth before (scalar c)) later obey) (omega arith))

same_not_other : (w n : ℕ) → n ≡ w → not (w == n) ≡ false
same_not_other w n is = grind (arith, nat_tests)

kept_map_dims : (w : ℕ) (dims : List Dim) → map (λ dim. dim.size) dims ≡ w ∷ [] → Each Kept (dim_slots 1 (Some w) 1 dims)
kept_map_dims w [] is = cc
kept_map_dims w (dim ∷ []) is =
    let one : dim.size ≡ w = cc in (refl, each_append Kept (size_slots (Some w) dim.name dim.size) [] (kept_size dim.name (Some w) dim.size (same_not_other w dim.size one)) tt)
kept_map_dims w (dim ∷ e ∷ dims) is = cc

kept_maps : (depth n : ℕ) (before : List (List ℕ)) (wanted : List ℕ) (maps : List ArrayDecl) → All Obeys (leaf_places depth before (map array maps)) → MapsOf maps wanted → n + length maps ≤ 1000001
    → Each Kept (map_slots depth n before wanted maps)
kept_maps depth n before wanted [] obey of few = tt
kept_maps depth n before [] (m ∷ maps) obey of few = absurd of
kept_maps depth n before (w ∷ wanted) (m ∷ maps) obey of few =
    let later = leaf_places depth (m.name ∷ before) (map array maps) in
    let here = all_first Obeys (place depth before (array m)) later obey in
    each_append Kept (array_slots 1 (Some w) (head depth n (type_word m.base)) before m) (map_slots depth (n + 1) (m.name ∷ before) wanted maps) (
      kept_head depth n here.shallow (omega arith),
      (
        kept_name before m.name here.name_differs,
        each_append Kept (dim_slots 1 (Some w) 1 m.dims) (semicolon ∷ []) (kept_map_dims w m.dims of.0) (refl, tt),
      ),
    )
    (kept_maps depth (n + 1) (m.name ∷ before) wanted maps (all_rest Obeys (place depth before (array m)) later obey) of.1 (omega arith))

kept_whole : (first : Judged) (parts : List Judged) (last own : Judged) → Kept first → Each Kept parts → Kept last → Kept own → Each Kept (whole_slots first parts last own)
kept_whole first parts last own one inside two three = (one, (refl, each_append Kept parts (last ∷ own ∷ semicolon ∷ []) inside (two, (three, (refl, tt)))))

kept_keywords : (arr maps : List Judged) → Each Kept arr → Each Kept maps → Each Kept (with_keywords arr maps)
kept_keywords arr maps one two = (refl, (refl, each_append Kept arr (fine (keyword (codes "Maps")) ∷ colon ∷ maps) one (refl, (refl, two))))

no_map_wanting : (a : ArrayDecl) (maps : List ArrayDecl) → MapsOf maps (sizes a) → nat_lt (length maps) (length a.dims) ≡ false
no_map_wanting a maps of =
    let long = length_all_zip' maps (sizes a) of in
    let dims = length-map a.dims (λ dim. dim.size) in not_less (length maps) (length a.dims) (omega arith)
  where
    length_all_zip' : (ms : List ArrayDecl) (ns : List ℕ) → MapsOf ms ns → length ms ≡ length ns
    length_all_zip' [] [] of' = refl
    length_all_zip' [] (n ∷ ns) of' = absurd of'
    length_all_zip' (m ∷ ms) [] of' = absurd of'
    length_all_zip' (m ∷ ms) (n ∷ ns) of' = ap suc (length_all_zip' ms ns of'.1)

mutual
  obeyed_kept : (m : Member) (depth n : ℕ) (before : List (List ℕ)) → Obeys (place depth before m) → All Obeys (part_places (depth + 1) m) → n + count m ≤ 1000001 → Each Kept (slots depth n before m)
  obeyed_kept (scalar c) depth n before keeps parts few = (kept_head depth n keeps.shallow (omega arith), (kept_name before c.name keeps.name_differs, (refl, tt)))
  obeyed_kept (array a) depth n before keeps parts few = kept_array depth n before a keeps (omega arith)
  obeyed_kept (structure own parts) depth n before keeps inside few =
      kept_whole (head depth n (codes "Structure")) (slots_all (depth + 1) (n + 1) [] parts) closes (named before own)
      (kept_head depth n keeps.shallow (omega arith)) (all_obeyed_kept parts (depth + 1) (n + 1) [] inside (omega arith)) refl (kept_name before own keeps.name_differs)
  obeyed_kept (grid own a maps) depth n before keeps inside few =
      let later = leaf_places (depth + 1) (a.name ∷ []) (map array maps) in
      let arr : List Judged = array_slots 32 None (head (depth + 1) (n + 1) (type_word a.base)) [] a in
      let maps_slots : List Judged = map_slots (depth + 1) (n + 2) (a.name ∷ []) (sizes a) maps in
      kept_whole (head depth n (codes "Grid")) (with_keywords arr maps_slots) (record { slot = sign 125; broken = nat_lt (length maps) (length a.dims) }) (named before own)
      (kept_head depth n keeps.shallow (omega arith))
      (kept_keywords arr maps_slots (kept_array (depth + 1) (n + 1) [] a (all_first Obeys (place (depth + 1) [] (array a)) later inside) (omega arith))
      (kept_maps (depth + 1) (n + 2) (a.name ∷ []) (sizes a) maps (all_rest Obeys (place (depth + 1) [] (array a)) later inside) keeps.mapped (omega arith)))
      (no_map_wanting a maps keeps.mapped) (kept_name before own keeps.name_differs)
  obeyed_kept (sequence own columns) depth n before keeps inside few =
      kept_whole (head depth n (codes "Sequence")) (column_slots (depth + 1) (n + 1) [] columns) closes (named before own)
      (kept_head depth n keeps.shallow (omega arith)) (kept_columns (depth + 1) (n + 1) [] columns inside (omega arith)) refl (kept_name before own keeps.name_differs)

  all_obeyed_kept : (ms : Members) (depth n : ℕ) (before : List (List ℕ)) → All Obeys (places depth before ms) → n + count_all ms ≤ 1000001 → Each Kept (slots_all depth n before ms)
  all_obeyed_kept no_members depth n before obey few = tt
  all_obeyed_kept (member m ms) depth n before obey few =
      let later : List Place = places depth (name_of m ∷ before) ms in
      let inside = all_rest Obeys (place depth before m) (part_places (depth + 1) m ++ later) obey in
      each_append Kept (slots depth n before m) (slots_all depth (n + count m) (name_of m ∷ before) ms)
      (obeyed_kept m depth n before (all_first Obeys (place depth before m) (part_places (depth + 1) m ++ later) obey) (all_front Obeys (part_places (depth + 1) m) later inside) (omega arith))
      (all_obeyed_kept ms depth (n + count m) (name_of m ∷ before) (all_back Obeys (part_places (depth + 1) m) later inside) (omega arith))

-- a size in the slots of a token list is small
small_slot : (s : Slot) (t : Token) → spells s t ≡ true → Small s
small_slot (keyword k) t is = tt
small_slot (name n) t is = tt
small_slot (sign b) t is = tt
small_slot (size n) (token.sign c) is = absurd (false≢true is)
small_slot (size n) (token.word w) is =
    let small : nat_le n 2147483647 ≡ true =
    (both_true (nat_le 1 (length w) && nat_le (length w) 10 && list_all is_ascii_digit w && digits_value 10 w == n) (nat_le n 2147483647) is).1 in
    grind (arith, nat_tests)

small_slots : (js : List Judged) (ts : List Token) → pointwise spells (map (λ j. j.slot) js) ts ≡ true → Each (λ j. Small j.slot) js
small_slots [] ts is = tt
small_slots (j ∷ js) [] is = absurd (false≢true is)
small_slots (j ∷ js) (t ∷ ts) is =
    let both = both_true (spells j.slot t) (pointwise spells (map (λ k. k.slot) js) ts) is in (small_slot j.slot t both.0, small_slots js ts both.1)

kept_each : (js : List Judged) → list_any (λ j. j.broken) js ≡ false → Each Kept js
kept_each [] none = tt
kept_each (j ∷ js) none = let both = or_parts j.broken (list_any (λ k. k.broken) js) none in (both.0, kept_each js both.1)

each_kept : (js : List Judged) → Each Kept js → list_any (λ j. j.broken) js ≡ false
each_kept [] each = refl
each_kept (j ∷ js) each = or_from j.broken (list_any (λ k. k.broken) js) each.0 (each_kept js each.1)

good_each : (js : List Judged) → Each Kept js → Each (λ j. Small j.slot) js → Each Good js
good_each [] kept small = tt
good_each (j ∷ js) kept small = ((kept.0, small.0), good_each js kept.1 small.1)

-- a token list that breaks no rule stands for a well-formed dataset
pub well_formed_unbroken : (ts : List Token) (d : Dataset) → StandsFor ts d → list_any (λ j. j.broken) (dataset_slots d) ≡ false → IsWellFormed d
well_formed_unbroken ts d stands none =
    let good = good_each (dataset_slots d) (kept_each (dataset_slots d) none) (small_slots (dataset_slots d) ts stands.1) in
    let parts = whole_kept (fine (keyword (codes "Dataset"))) (slots_all 1 1 [] d.members) closes (fine (name d.name)) good in
    let obey = kept_all_obey d.members 1 1 [] stands.0 (omega arith) parts.1 in
    let long = length-places d.members 1 [] in
    well_formed_where_all_obey d (omega (arith, obey.1)) obey.0

-- and the other way round
pub unbroken_well_formed : (d : Dataset) → IsWellFormed d → list_any (λ j. j.broken) (dataset_slots d) ≡ false
unbroken_well_formed d is =
    let long = length-places d.members 1 [] in
    let few : 1 + count_all d.members ≤ 1000001 = omega (arith, is.few) in
    each_kept (dataset_slots d)
    (kept_whole (fine (keyword (codes "Dataset"))) (slots_all 1 1 [] d.members) closes (fine (name d.name)) refl (all_obeyed_kept d.members 1 1 [] (all_obey_where_well_formed d is) few) refl refl)
