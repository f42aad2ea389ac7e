-- A token list of the grammar breaks no rule exactly where its dataset is well formed: slot by slot.
use Rattle.std.proofs.Common.{◌≡◌, ℕ, ◌+◌, ◌≤◌, List, [], ◌∷◌, ◌++◌, length, map, take, All, Contains, true, false, ◌||◌, not, ◌==◌, nat_lt, Option, Some, None, ap, ◌∙◌, sym, subst, codes, arith}
use Rattle.std.proofs.lemmas.Bool.{false≢true, or_parts}
use Rattle.std.proofs.lemmas.Bool.Decides.{nat_tests, not_from_Decides}
use Rattle.std.proofs.lemmas.List.{length-map}
use Rattle.std.proofs.Math.Seq.{take-length}
use Rattle.std.proofs.lemmas.List.Elements.{All-append, All-cons, All-nil}
use Rattle.std.specs.Bool.{⊤}
use Rattle.std.specs.List.{AllZip, list_all, list_any}
use Rattle.std.specs.Str.{bytes_eq}
use Rattle.plain_lemmas.proofs.Truths.{both_true}
use Rattle.dap_types.proofs.Rules.{Obeys, earlier-Decides}
use Rattle.dap_types.specs.Model.{Member, scalar, array, structure, grid, sequence, Members, no_members, member, name_of, count, count_all, sizes}
use Rattle.dap_types.specs.WellFormed.{place, places, part_places, leaf_places, IsSized, HasMaps}
use Rattle.dap_types.specs.declared.declarations.ArrayDecl.{ArrayDecl}
use Rattle.dap_types.specs.declared.declarations.Column.{Column}
use Rattle.dap_types.specs.declared.declarations.Dim.{Dim}
use Rattle.dap_model.specs.Dds.{type_word}
use Rattle.dap_model.specs.Grammar.{Slot, keyword, size, sign, Judged, fine, closes, semicolon, colon, head, named, size_slots, dim_slots, scalar_slots, array_slots, column_slots, map_slots, whole_slots, slots, slots_all, has_dims, have_dims, all_have_dims}

-- each slot has the property, by recursion
abbrev pub Each : (Judged → Type 0) → List Judged → Type 0
Each P [] = ⊤
Each P (j ∷ js) = P j × Each P js

pub each_front : (P : Judged → Type 0) (js ks : List Judged) → Each P (js ++ ks) → Each P js
each_front P [] ks each = tt
each_front P (j ∷ js) ks each = (each.0, each_front P js ks each.1)

pub each_back : (P : Judged → Type 0) (js ks : List Judged) → Each P (js ++ ks) → Each P ks
each_back P [] ks each = each
each_back P (j ∷ js) ks each = each_back P js ks each.1

pub each_append : (P : Judged → Type 0) (js ks : List Judged) → Each P js → Each P ks → Each P (js ++ ks)
each_append P [] ks first second = second
each_append P (j ∷ js) ks first second = (first.0, each_append P js ks first.1 second)

-- it breaks no rule, and a size is one
abbrev pub Kept : Judged → Type 0
Kept j = j.broken ≡ false

abbrev pub Small : Slot → Type 0
Small (size n) = n ≤ 2147483647
Small slot = ⊤

abbrev pub Good : Judged → Type 0
Good j = Kept j × Small j.slot

pub not_below : (a b : ℕ) → nat_lt a b ≡ false → b ≤ a
not_below a b is = grind (arith, nat_tests)

head_kept : (depth n : ℕ) → (nat_lt 16 depth || nat_lt 1000000 n) ≡ false → (depth ≤ 16) × (n ≤ 1000000)
head_kept depth n is = let both = or_parts (nat_lt 16 depth) (nat_lt 1000000 n) is in (not_below 16 depth both.0, not_below 1000000 n both.1)

name_kept : (before : List (List ℕ)) (own : List ℕ) → list_any (bytes_eq own) before ≡ false → ¬ Contains before own
name_kept before own is = not_from_Decides (list_any (bytes_eq own) before) (earlier-Decides own before) is

-- what is kept of an array's dimensions
dims_few : (most k : ℕ) (dims : List Dim) → k ≤ most + 1 → Each Good (dim_slots most None k dims) → length dims + k ≤ most + 1
dims_few most k [] le good = omega arith
dims_few most k (dim ∷ dims) le good =
    let here = not_below most k good.0.0 in
    let rest = dims_few most (k + 1) dims (omega arith) (each_back Good (size_slots None dim.name dim.size) (dim_slots most None (k + 1) dims) good.1) in
    omega arith

size_small : (wanted : Option ℕ) (own : Option (List ℕ)) (n : ℕ) → Each Good (size_slots wanted own n) → n ≤ 2147483647
size_small wanted None n good = good.0.1
size_small wanted (Some dim) n good = good.1.1.0.1

dims_small : (most k : ℕ) (wanted : Option ℕ) (dims : List Dim) → Each Good (dim_slots most wanted k dims) → All (λ n. n ≤ 2147483647) (map (λ dim. dim.size) dims)
dims_small most k wanted [] good = All-nil (λ n. n ≤ 2147483647)
dims_small most k wanted (dim ∷ dims) good =
    All-cons (λ n. n ≤ 2147483647) dim.size (map (λ dim. dim.size) dims) (size_small wanted dim.name dim.size (each_front Good (size_slots wanted dim.name dim.size) (dim_slots most wanted (k + 1) dims) good.1))
    (dims_small most (k + 1) wanted dims (each_back Good (size_slots wanted dim.name dim.size) (dim_slots most wanted (k + 1) dims) good.1))

array_sized : (a : ArrayDecl) → has_dims a ≡ true → Each Good (dim_slots 32 None 1 a.dims) → IsSized (array a)
array_sized a some good =
    let few = dims_few 32 1 a.dims (omega arith) good in (grind (arith, nat_tests), omega arith, dims_small 32 1 None a.dims good)

-- a member's first word and its name
obeys : (depth : ℕ) (before : List (List ℕ)) (m : Member) → depth ≤ 16 → list_any (bytes_eq (name_of m)) before ≡ false → IsSized m → HasMaps m → Obeys (place depth before m)
obeys depth before m shallow differs sized mapped = record { shallow = shallow; name_differs = name_kept before (name_of m) differs; sized = sized; mapped = mapped }

array_obeys : (depth n : ℕ) (before : List (List ℕ)) (a : ArrayDecl) → has_dims a ≡ true → Each Good (array_slots 32 None (head depth n (type_word a.base)) before a)
    → Obeys (place depth before (array a)) × (n ≤ 1000000)
array_obeys depth n before a some good =
    let first = head_kept depth n good.0.0 in
    (obeys depth before (array a) first.0 good.1.0.0 (array_sized a some (each_front Good (dim_slots 32 None 1 a.dims) (semicolon ∷ []) good.1.1)) tt, first.1)

columns_obey : (depth n : ℕ) (before : List (List ℕ)) (columns : List Column) → n ≤ 1000001 → Each Good (column_slots depth n before columns)
    → All Obeys (leaf_places depth before (map scalar columns)) × (n + length columns ≤ 1000001)
columns_obey depth n before [] le good = (All-nil Obeys, omega arith)
columns_obey depth n before (c ∷ columns) le good =
    let later = column_slots depth (n + 1) (c.name ∷ before) columns in
    let here = each_front Good (scalar_slots depth n before c) later good in
    let first = head_kept depth n here.0.0 in
    let rest = columns_obey depth (n + 1) (c.name ∷ before) columns (omega (arith, first.1)) (each_back Good (scalar_slots depth n before c) later good) in
    (All-cons Obeys (place depth before (scalar c)) (leaf_places depth (c.name ∷ before) (map scalar columns)) (obeys depth before (scalar c) first.0 here.1.0.0 tt tt) rest.0, omega (arith, rest.1))

-- a map's size is the one that is wanted
not_other : (w n : ℕ) → not (w == n) ≡ false → n ≡ w
not_other w n is = grind (arith, nat_tests)

size_wanted : (w : ℕ) (own : Option (List ℕ)) (n : ℕ) → Each Good (size_slots (Some w) own n) → n ≡ w
size_wanted w None n good = not_other w n good.1.0.0
size_wanted w (Some dim) n good = not_other w n good.1.1.0.0

map_sizes : (w : ℕ) (dims : List Dim) → nat_lt 0 (length dims) ≡ true → Each Good (dim_slots 1 (Some w) 1 dims) → map (λ dim. dim.size) dims ≡ w ∷ []
map_sizes w [] some good = absurd (false≢true some)
map_sizes w (dim ∷ []) some good = ap (λ k. k ∷ []) (size_wanted w dim.name dim.size (each_front Good (size_slots (Some w) dim.name dim.size) [] good.1))
map_sizes w (dim ∷ e ∷ dims) some good =
    let second = each_back Good (size_slots (Some w) dim.name dim.size) (dim_slots 1 (Some w) (1 + 1) (e ∷ dims)) good.1 in absurd (false≢true (sym second.0.0))

map_sized : (m : ArrayDecl) (w : ℕ) → sizes m ≡ w ∷ [] → All (λ n. n ≤ 2147483647) (sizes m) → IsSized (array m)
map_sized m w is small = let one = ap length is in let long = length-map m.dims (λ dim. dim.size) in (omega arith, omega arith, small)

abbrev pub MapsOf : List ArrayDecl → List ℕ → Type 0
MapsOf maps wanted = AllZip (λ m k. sizes m ≡ k ∷ []) maps wanted

maps_obey : (depth n : ℕ) (before : List (List ℕ)) (wanted : List ℕ) (maps : List ArrayDecl) → list_all has_dims maps ≡ true → n ≤ 1000001 → Each Good (map_slots depth n before wanted maps)
    → All Obeys (leaf_places depth before (map array maps)) × (n + length maps ≤ 1000001) × (length maps ≤ length wanted) × MapsOf maps (take (length maps) wanted)
maps_obey depth n before wanted [] some le good = (All-nil Obeys, omega arith, omega arith, tt)
maps_obey depth n before [] (m ∷ maps) some le good = absurd (false≢true (sym good.0.0))
maps_obey depth n before (w ∷ wanted) (m ∷ maps) some le good =
    let later = map_slots depth (n + 1) (m.name ∷ before) wanted maps in
    let own = array_slots 1 (Some w) (head depth n (type_word m.base)) before m in
    let here = each_front Good own later good in
    let first = head_kept depth n here.0.0 in
    let dims = each_front Good (dim_slots 1 (Some w) 1 m.dims) (semicolon ∷ []) here.1.1 in
    let both = both_true (has_dims m) (list_all has_dims maps) some in
    let is = map_sizes w m.dims both.0 dims in
    let sized = map_sized m w is (dims_small 1 1 (Some w) m.dims dims) in
    let rest = maps_obey depth (n + 1) (m.name ∷ before) wanted maps both.1 (omega (arith, first.1)) (each_back Good own later good) in (
      All-cons Obeys (place depth before (array m)) (leaf_places depth (m.name ∷ before) (map array maps)) (obeys depth before (array m) first.0 here.1.0.0 sized tt) rest.0,
      omega (arith, rest.1),
      omega (arith, rest.2),
      (is, rest.3),
    )

all_maps : (a : ArrayDecl) (maps : List ArrayDecl) → length maps ≤ length (sizes a) → nat_lt (length maps) (length a.dims) ≡ false → MapsOf maps (take (length maps) (sizes a)) → MapsOf maps (sizes a)
all_maps a maps most least of =
    let long = length-map a.dims (λ dim. dim.size) in
    let few = not_below (length maps) (length a.dims) least in
    let same : length maps ≡ length (sizes a) = omega arith in
    subst (MapsOf maps) (ap (λ k. take k (sizes a)) same ∙ take-length (sizes a)) of

-- a whole: its word, its parts, its closes sign and its name
pub whole_kept : (first : Judged) (parts : List Judged) (last own : Judged) → Each Good (whole_slots first parts last own) → Good first × Each Good parts × Good last × Good own
whole_kept first parts last own good =
    let behind = each_back Good parts (last ∷ own ∷ semicolon ∷ []) good.1.1 in
    (good.0, each_front Good parts (last ∷ own ∷ semicolon ∷ []) good.1.1, behind.0, behind.1.0)

-- the array's slots and the maps', behind their keywords
abbrev pub with_keywords : List Judged → List Judged → List Judged
with_keywords arr maps = fine (keyword (codes "Array")) ∷ colon ∷ arr ++ fine (keyword (codes "Maps")) ∷ colon ∷ maps

grid_kept : (arr maps : List Judged) → Each Good (with_keywords arr maps) → Each Good arr × Each Good maps
grid_kept arr maps good =
    let later : List Judged = fine (keyword (codes "Maps")) ∷ colon ∷ maps in (each_front Good arr later good.1.1, (each_back Good arr later good.1.1).1.1)

mutual
  kept_obeys : (m : Member) (depth n : ℕ) (before : List (List ℕ)) → have_dims m ≡ true → Each Good (slots depth n before m)
      → Obeys (place depth before m) × All Obeys (part_places (depth + 1) m) × (n + count m ≤ 1000001)
  kept_obeys (scalar c) depth n before some good =
      let first = head_kept depth n good.0.0 in (obeys depth before (scalar c) first.0 good.1.0.0 tt tt, All-nil Obeys, omega (arith, first.1))
  kept_obeys (array a) depth n before some good =
      let both = array_obeys depth n before a some good in (both.0, All-nil Obeys, omega (arith, both.1))
  kept_obeys (structure own parts) depth n before some good =
      let all = whole_kept (head depth n (codes "Structure")) (slots_all (depth + 1) (n + 1) [] parts) closes (named before own) good in
      let first = head_kept depth n all.0.0 in
      let inside = kept_all_obey parts (depth + 1) (n + 1) [] some (omega (arith, first.1)) all.1 in
      (obeys depth before (structure own parts) first.0 all.3.0 tt tt, inside.0, omega (arith, inside.1))
  kept_obeys (grid own a maps) depth n before some good =
      let arr : List Judged = array_slots 32 None (head (depth + 1) (n + 1) (type_word a.base)) [] a in
      let maps_slots : List Judged = map_slots (depth + 1) (n + 2) (a.name ∷ []) (sizes a) maps in
      let all = whole_kept (head depth n (codes "Grid")) (with_keywords arr maps_slots) (record { slot = sign 125; broken = nat_lt (length maps) (length a.dims) }) (named before own) good in
      let first = head_kept depth n all.0.0 in
      let both = both_true (has_dims a) (list_all has_dims maps) some in
      let two = grid_kept arr maps_slots all.1 in
      let array' = array_obeys (depth + 1) (n + 1) [] a both.0 two.0 in
      let maps' = maps_obey (depth + 1) (n + 2) (a.name ∷ []) (sizes a) maps both.1 (omega (arith, array'.1)) two.1 in (
        obeys depth before (grid own a maps) first.0 all.3.0 tt (all_maps a maps maps'.2 all.2.0 maps'.3),
        All-cons Obeys (place (depth + 1) [] (array a)) (leaf_places (depth + 1) (a.name ∷ []) (map array maps)) array'.0 maps'.0,
        omega (arith, maps'.1),
      )
  kept_obeys (sequence own columns) depth n before some good =
      let all = whole_kept (head depth n (codes "Sequence")) (column_slots (depth + 1) (n + 1) [] columns) closes (named before own) good in
      let first = head_kept depth n all.0.0 in
      let inside = columns_obey (depth + 1) (n + 1) [] columns (omega (arith, first.1)) all.1 in
      (obeys depth before (sequence own columns) first.0 all.3.0 tt tt, inside.0, omega (arith, inside.1))

  pub kept_all_obey : (ms : Members) (depth n : ℕ) (before : List (List ℕ)) → all_have_dims ms ≡ true → n ≤ 1000001 → Each Good (slots_all depth n before ms)
      → All Obeys (places depth before ms) × (n + count_all ms ≤ 1000001)
  kept_all_obey no_members depth n before some le good = (All-nil Obeys, omega arith)
  kept_all_obey (member m ms) depth n before some le good =
      let later = slots_all depth (n + count m) (name_of m ∷ before) ms in
      let both = both_true (have_dims m) (all_have_dims ms) some in
      let here = kept_obeys m depth n before both.0 (each_front Good (slots depth n before m) later good) in
      let rest = kept_all_obey ms depth (n + count m) (name_of m ∷ before) both.1 here.2 (each_back Good (slots depth n before m) later good) in (
        All-cons Obeys (place depth before m) (part_places (depth + 1) m ++ places depth (name_of m ∷ before) ms) here.0
            (All-append Obeys (part_places (depth + 1) m) (places depth (name_of m ∷ before) ms) here.1 rest.0),
        omega (arith, rest.1),
      )
