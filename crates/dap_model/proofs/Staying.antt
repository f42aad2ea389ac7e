-- What a constraint leaves of a well-formed dataset is well formed.
use Rattle.std.proofs.Common.{◌≡◌, ℕ, zero, suc, ◌+◌, ◌*◌, ◌<◌, ◌≤◌, List, [], ◌∷◌, ◌++◌, length, map, All, Contains, Option, Some, None, is_some, Bool, true, false, ◌&&◌, ◌==◌, if◌then◌else◌, get_or, ⊎_elim, inl, inr, ◌⊎◌, refl, ap, ◌∙◌, sym, subst, arith}
use Rattle.std.proofs.lemmas.Bool.{false≢true}
use Rattle.std.proofs.lemmas.List.Elements.{All-cons, All-nil, All-append}
use Rattle.std.specs.Cmp.Lexicographic.{pointwise, as_long}
use Rattle.std.proofs.lemmas.List.FromFn.{length-map-range_with_len}
use Rattle.std.specs.List.{AllZip, zip}
use Rattle.std.specs.Option.{option_map_or}
use Rattle.plain_lemmas.proofs.Truths.{both_true}
use Rattle.dap_types.proofs.Faults.{length-places}
use Rattle.dap_types.proofs.Rules.{Obeys, all_obey_where_well_formed, well_formed_where_all_obey}
use Rattle.dap_types.specs.Model.{Member, scalar, array, structure, grid, sequence, Members, no_members, member, members_of, Dataset, name_of, count, count_all, sizes}
use Rattle.dap_types.specs.WellFormed.{Place, place, places, part_places, leaf_places, IsSized, HasMaps, IsWellFormed}
use Rattle.dap_types.specs.declared.declarations.ArrayDecl.{ArrayDecl}
use Rattle.dap_types.specs.declared.declarations.Column.{Column}
use Rattle.dap_types.specs.declared.declarations.Dim.{Dim}
use Rattle.dap_types.specs.declared.slabs.Slab.{Slab}
use Rattle.dap_model.proofs.Values.{all_first, all_rest, all_front, all_back}
use Rattle.dap_model.specs.Cutting.{indexes, counted, IsWithin}
use Rattle.dap_model.specs.Filter.{Marks, marked, unchanged, slabs_at, has_mark, same_numbers, picks, all_pick, stays_grid, as_grid, filtered, filtered_all, constrained, Suits, SuitEach, SuitsMember, SuitsAll}
use Rattle.dap_model.proofs.Counts.{counts, counted_sized}

-- fewer names come before
abbrev Among : List (List ℕ) → List (List ℕ) → Type 0
Among xs ys = (name : List ℕ) → Contains xs name → Contains ys name

contains_later : (x : List ℕ) (xs : List (List ℕ)) (y : List ℕ) → Contains xs y → Contains (x ∷ xs) y
contains_later x xs y has = (suc has.0, omega (arith, has.1), has.2)

pub contains_cases : (x : List ℕ) (xs : List (List ℕ)) (y : List ℕ) → Contains (x ∷ xs) y → (x ≡ y) ⊎ Contains xs y
contains_cases x xs y has = by has.0 has.1 has.2
  where
    by : (k : ℕ) → k < length (x ∷ xs) → get_or (x ∷ xs) k y ≡ y → (x ≡ y) ⊎ Contains xs y
    by zero lt is = inl is
    by (suc k) lt is = inr (k, omega arith, is)

among_both : (x : List ℕ) (xs ys : List (List ℕ)) → Among xs ys → Among (x ∷ xs) (x ∷ ys)
among_both x xs ys among y has = ⊎_elim (λ is. (0, omega arith, is)) (λ has'. contains_later x ys y (among y has')) (contains_cases x xs y has)

among_more : (x : List ℕ) (xs ys : List (List ℕ)) → Among xs ys → Among xs (x ∷ ys)
among_more x xs ys among y has = contains_later x ys y (among y has)

array_obeys : (depth : ℕ) (earlier earlier' : List (List ℕ)) (a : ArrayDecl) (slabs : List Slab) → Among earlier' earlier → AllZip IsWithin slabs (sizes a)
    → Obeys (place depth earlier (array a)) → Obeys (place depth earlier' (array (counted slabs a)))
array_obeys depth earlier earlier' a slabs among within obeys = record {
  shallow = obeys.shallow;
  name_differs = λ has. obeys.name_differs (among a.name has);
  sized = counted_sized a slabs within obeys.sized;
  mapped = tt;
}

-- the arrays of a Grid
arrays_obey : (marks : Marks) (arrays : List ArrayDecl) (n depth : ℕ) (earlier earlier' : List (List ℕ)) → Among earlier' earlier → SuitEach marks n arrays
    → All Obeys (leaf_places depth earlier (map array arrays)) → All Obeys (leaf_places depth earlier' (map array (marked counted marks n arrays)))
arrays_obey marks [] n depth earlier earlier' among suit obey = All-nil Obeys
arrays_obey marks (a ∷ arrays) n depth earlier earlier' among suit obey =
    let rest = all_rest Obeys (place depth earlier (array a)) (leaf_places depth (a.name ∷ earlier) (map array arrays)) obey in
    here (marks n) suit.0 (marked counted marks (n + 1) arrays)
    (arrays_obey marks arrays (n + 1) depth (a.name ∷ earlier) earlier' (among_more a.name earlier' earlier among) suit.1 rest)
    (arrays_obey marks arrays (n + 1) depth (a.name ∷ earlier) (a.name ∷ earlier') (among_both a.name earlier' earlier among) suit.1 rest)
  where
    here : (o : Option (List Slab)) → Suits o a → (left : List ArrayDecl)
        → All Obeys (leaf_places depth earlier' (map array left)) → All Obeys (leaf_places depth (a.name ∷ earlier') (map array left))
        → All Obeys (leaf_places depth earlier' (map array (option_map_or (λ slabs. counted slabs a ∷ left) o left)))
    here None suits left without with' = without
    here (Some slabs) suits left without with' =
        All-cons Obeys (place depth earlier' (array (counted slabs a))) (leaf_places depth (a.name ∷ earlier') (map array left))
        (array_obeys depth earlier earlier' a slabs among suits (all_first Obeys (place depth earlier (array a)) (leaf_places depth (a.name ∷ earlier) (map array arrays)) obey)) with'

-- the columns of a Sequence
columns_obey : (marks : Marks) (columns : List Column) (n depth : ℕ) (earlier earlier' : List (List ℕ)) → Among earlier' earlier
    → All Obeys (leaf_places depth earlier (map scalar columns)) → All Obeys (leaf_places depth earlier' (map scalar (marked unchanged marks n columns)))
columns_obey marks [] n depth earlier earlier' among obey = All-nil Obeys
columns_obey marks (c ∷ columns) n depth earlier earlier' among obey =
    let rest = all_rest Obeys (place depth earlier (scalar c)) (leaf_places depth (c.name ∷ earlier) (map scalar columns)) obey in
    here (marks n) (marked unchanged marks (n + 1) columns)
    (columns_obey marks columns (n + 1) depth (c.name ∷ earlier) earlier' (among_more c.name earlier' earlier among) rest)
    (columns_obey marks columns (n + 1) depth (c.name ∷ earlier) (c.name ∷ earlier') (among_both c.name earlier' earlier among) rest)
  where
    obeys : Obeys (place depth earlier (scalar c))
    obeys = all_first Obeys (place depth earlier (scalar c)) (leaf_places depth (c.name ∷ earlier) (map scalar columns)) obey

    here : (o : Option (List Slab)) (left : List Column)
        → All Obeys (leaf_places depth earlier' (map scalar left)) → All Obeys (leaf_places depth (c.name ∷ earlier') (map scalar left))
        → All Obeys (leaf_places depth earlier' (map scalar (option_map_or (λ slabs. c ∷ left) o left)))
    here None left without with' = without
    here (Some slabs) left without with' =
        All-cons Obeys (place depth earlier' (scalar c)) (leaf_places depth (c.name ∷ earlier') (map scalar left))
        (record { shallow = obeys.shallow; name_differs = λ has. obeys.name_differs (among c.name has); sized = tt; mapped = tt }) with'

-- members without parts stand on their level alone
array_places : (depth : ℕ) (earlier : List (List ℕ)) (arrays : List ArrayDecl) → places depth earlier (members_of (map array arrays)) ≡ leaf_places depth earlier (map array arrays)
array_places depth earlier [] = refl
array_places depth earlier (a ∷ arrays) = ap (λ ps. place depth earlier (array a) ∷ ps) (array_places depth (a.name ∷ earlier) arrays)

-- the maps that are left are those of the array that is left
same_length : (xs ys : List ℕ) → same_numbers xs ys ≡ true → length xs ≡ length ys
same_length xs ys same = as_long (λ x y. x == y) xs ys same

one_slab : (slabs : List Slab) (wanted : List ℕ) → pointwise same_numbers (map indexes slabs) (wanted ∷ []) ≡ true → (t : Slab) × (slabs ≡ t ∷ []) × (length (indexes t) ≡ length wanted)
one_slab [] wanted same = absurd (false≢true same)
one_slab (t ∷ []) wanted same = (t, refl, same_length (indexes t) wanted (both_true (same_numbers (indexes t) wanted) true same).0)
one_slab (t ∷ u ∷ slabs) wanted same = absurd (false≢true (sym (false_second (same_numbers (indexes t) wanted)) ∙ same))
  where
    false_second : (b : Bool) → (b && false) ≡ false
    false_second true = refl
    false_second false = refl

is_marked : (o : Option (List Slab)) (t : Slab) → option_map_or (λ slabs. slabs) o [] ≡ t ∷ [] → o ≡ Some (t ∷ [])
is_marked None t is = cc
is_marked (Some slabs) t is = ap Some is

map_stays : (m : ArrayDecl) (t : Slab) (n count : ℕ) → sizes m ≡ n ∷ [] → t.count ≡ count → sizes (counted (t ∷ []) m) ≡ count ∷ []
map_stays m t n count size same = by m.dims size
  where
    by : (dims : List Dim) → map (λ dim. dim.size) dims ≡ n ∷ [] → map (λ dim. dim.size) (map (λ (p : Dim × Slab). record p.0 { size = p.1.count }) (zip dims (t ∷ []))) ≡ count ∷ []
    by [] is = cc
    by (d ∷ []) is = ap (λ k. k ∷ []) same
    by (d ∷ e ∷ dims) is = cc

maps_stay : (marks : Marks) (n : ℕ) (maps : List ArrayDecl) (slabs : List Slab) (ns : List ℕ) → AllZip IsWithin slabs ns → AllZip (λ m n. sizes m ≡ n ∷ []) maps ns → all_pick marks n slabs ≡ true
    → AllZip (λ m n. sizes m ≡ n ∷ []) (marked counted marks n maps) (map (λ s. s.count) slabs)
maps_stay marks n [] [] ns within mapped picked = tt
maps_stay marks n [] (s ∷ slabs) [] within mapped picked = absurd within
maps_stay marks n [] (s ∷ slabs) (k ∷ ns) within mapped picked = absurd mapped
maps_stay marks n (m ∷ maps) [] [] within mapped picked = absurd mapped
maps_stay marks n (m ∷ maps) [] (k ∷ ns) within mapped picked = absurd within
maps_stay marks n (m ∷ maps) (s ∷ slabs) [] within mapped picked = absurd within
maps_stay marks n (m ∷ maps) (s ∷ slabs) (k ∷ ns) within mapped picked =
    let both = both_true (picks marks n (indexes s)) (all_pick marks (n + 1) slabs) picked in
    let one = one_slab (slabs_at marks n) (indexes s) both.0 in
    let is = is_marked (marks n) one.0 one.1 in
    let same : (one.0).count ≡ s.count = sym (length-map-range_with_len (λ j. (one.0).start + j * (one.0).stride) 0 (one.0).count) ∙ one.2 ∙ length-map-range_with_len (λ j. s.start + j * s.stride) 0 s.count in
    subst (λ o. AllZip (λ m n. sizes m ≡ n ∷ []) (option_map_or (λ slabs. counted slabs m ∷ marked counted marks (n + 1) maps) o (marked counted marks (n + 1) maps)) (s.count ∷ map (λ s. s.count) slabs)) (sym is)
    (map_stays m one.0 k s.count mapped.0 same, maps_stay marks (n + 1) maps slabs ns within.1 mapped.1 both.1)

-- a Grid that stays one has its maps
grid_stays_mapped : (marks : Marks) (n : ℕ) (name : List ℕ) (a : ArrayDecl) (maps : List ArrayDecl) → SuitEach marks (n + 1) (a ∷ maps) → HasMaps (grid name a maps) → stays_grid marks n ≡ true
    → HasMaps (as_grid name (marked counted marks (n + 1) (a ∷ maps)))
grid_stays_mapped marks n name a maps suit mapped stays = by (marks (n + 1)) refl suit.0 (both_true (is_some (marks (n + 1))) (all_pick marks (n + 2) (slabs_at marks (n + 1))) stays)
  where
    by : (o : Option (List Slab)) → marks (n + 1) ≡ o → Suits o a → (is_some (marks (n + 1)) ≡ true) × (all_pick marks (n + 2) (slabs_at marks (n + 1)) ≡ true)
        → HasMaps (as_grid name (option_map_or (λ slabs. counted slabs a ∷ marked counted marks (n + 1 + 1) maps) o (marked counted marks (n + 1 + 1) maps)))
    by None is suits both = absurd (false≢true (sym (ap is_some is) ∙ both.0))
    by (Some slabs) is suits both =
        let later : n + 2 ≡ n + 1 + 1 = omega arith in
        let picked : all_pick marks (n + 1 + 1) slabs ≡ true =
        ap (λ k. all_pick marks k slabs) (sym later) ∙ ap (λ o. all_pick marks (n + 2) (option_map_or (λ ss. ss) o [])) (sym is) ∙ both.1 in
        subst (AllZip (λ m k. sizes m ≡ k ∷ []) (marked counted marks (n + 1 + 1) maps)) (sym (counts a.dims slabs suits)) (maps_stay marks (n + 1 + 1) maps slabs (sizes a) suits mapped picked)

as_grid_name : (name : List ℕ) (arrays : List ArrayDecl) → name_of (as_grid name arrays) ≡ name
as_grid_name name [] = refl
as_grid_name name (a ∷ maps) = refl

-- what is left of a Grid, either way
abbrev left_grid : Bool → List ℕ → List ArrayDecl → Member
left_grid stays name arrays = if stays then as_grid name arrays else structure name (members_of (map array arrays))

left_grid_name : (stays : Bool) (name : List ℕ) (arrays : List ArrayDecl) → name_of (left_grid stays name arrays) ≡ name
left_grid_name true name arrays = as_grid_name name arrays
left_grid_name false name arrays = refl

filtered_name : (marks : Marks) (n : ℕ) (m : Member) → name_of (filtered marks n m) ≡ name_of m
filtered_name marks n (scalar column) = refl
filtered_name marks n (array a) = refl
filtered_name marks n (structure name parts) = refl
filtered_name marks n (grid name a maps) = left_grid_name (stays_grid marks n) name (marked counted marks (n + 1) (a ∷ maps))
filtered_name marks n (sequence name columns) = refl

left_grid_parts : (stays : Bool) (name : List ℕ) (arrays : List ArrayDecl) (depth : ℕ) → All Obeys (leaf_places depth [] (map array arrays)) → All Obeys (part_places depth (left_grid stays name arrays))
left_grid_parts true name [] depth obey = All-nil Obeys
left_grid_parts true name (a ∷ maps) depth obey = obey
left_grid_parts false name arrays depth obey = subst (All Obeys) (sym (array_places depth [] arrays)) obey

left_grid_sized : (stays : Bool) (name : List ℕ) (arrays : List ArrayDecl) → IsSized (left_grid stays name arrays)
left_grid_sized true name [] = tt
left_grid_sized true name (a ∷ maps) = tt
left_grid_sized false name arrays = tt

left_grid_mapped : (stays : Bool) (name : List ℕ) (arrays : List ArrayDecl) → (stays ≡ true → HasMaps (as_grid name arrays)) → HasMaps (left_grid stays name arrays)
left_grid_mapped true name arrays mapped = mapped refl
left_grid_mapped false name arrays mapped = tt

-- a member keeps its depth and its name, among fewer names
still : (depth : ℕ) (earlier earlier' : List (List ℕ)) (m m' : Member) → Among earlier' earlier → name_of m' ≡ name_of m → IsSized m' → HasMaps m' → Obeys (place depth earlier m) → Obeys (place depth earlier' m')
still depth earlier earlier' m m' among same sized mapped obeys = record {
  shallow = obeys.shallow;
  name_differs = λ has. obeys.name_differs (among (name_of m) (subst (Contains earlier') same has));
  sized = sized;
  mapped = mapped;
}

none_among : Among [] []
none_among name has = has

when_kept : (b : Bool) (depth : ℕ) (earlier : List (List ℕ)) (m : Member) (ms : Members) → (b ≡ true → Obeys (place depth earlier m) × All Obeys (part_places (depth + 1) m))
    → All Obeys (places depth earlier ms) → All Obeys (places depth (name_of m ∷ earlier) ms) → All Obeys (places depth earlier (if b then member m ms else ms))
when_kept true depth earlier m ms here without with' =
    let both = here refl in
    All-cons Obeys (place depth earlier m) (part_places (depth + 1) m ++ places depth (name_of m ∷ earlier) ms) both.0
    (All-append Obeys (part_places (depth + 1) m) (places depth (name_of m ∷ earlier) ms) both.1 with')
when_kept false depth earlier m ms here without with' = without

mutual
  filtered_obeys : (marks : Marks) (m : Member) (n depth : ℕ) (earlier earlier' : List (List ℕ)) → Among earlier' earlier → SuitsMember marks n m → has_mark marks n m ≡ true
      → Obeys (place depth earlier m) → All Obeys (part_places (depth + 1) m) → Obeys (place depth earlier' (filtered marks n m)) × All Obeys (part_places (depth + 1) (filtered marks n m))
  filtered_obeys marks (scalar column) n depth earlier earlier' among suit has obeys parts = (still depth earlier earlier' (scalar column) (scalar column) among refl tt tt obeys, parts)
  filtered_obeys marks (array a) n depth earlier earlier' among suit has obeys parts =
      (with_slabs (marks n) suit has, All-nil Obeys)
    where
      with_slabs : (o : Option (List Slab)) → Suits o a → is_some o ≡ true → Obeys (place depth earlier' (array (counted (option_map_or (λ slabs. slabs) o []) a)))
      with_slabs None suits is = absurd (false≢true is)
      with_slabs (Some slabs) suits is = array_obeys depth earlier earlier' a slabs among suits obeys
  filtered_obeys marks (structure name parts) n depth earlier earlier' among suit has obeys inside = (
    still depth earlier earlier' (structure name parts) (structure name (filtered_all marks (n + 1) parts)) among refl tt tt obeys,
    filtered_all_obey marks parts (n + 1) (depth + 1) [] [] none_among suit inside,
  )
  filtered_obeys marks (grid name a maps) n depth earlier earlier' among suit has obeys inside =
      let arrays : List ArrayDecl = marked counted marks (n + 1) (a ∷ maps) in (
        still depth earlier earlier' (grid name a maps) (left_grid (stays_grid marks n) name arrays) among (left_grid_name (stays_grid marks n) name arrays)
            (left_grid_sized (stays_grid marks n) name arrays) (left_grid_mapped (stays_grid marks n) name arrays (grid_stays_mapped marks n name a maps suit obeys.mapped)) obeys,
        left_grid_parts (stays_grid marks n) name arrays (depth + 1) (arrays_obey marks (a ∷ maps) (n + 1) (depth + 1) [] [] none_among suit inside),
      )
  filtered_obeys marks (sequence name columns) n depth earlier earlier' among suit has obeys inside = (
    still depth earlier earlier' (sequence name columns) (sequence name (marked unchanged marks (n + 1) columns)) among refl tt tt obeys,
    columns_obey marks columns (n + 1) (depth + 1) [] [] none_among inside,
  )

  filtered_all_obey : (marks : Marks) (ms : Members) (n depth : ℕ) (earlier earlier' : List (List ℕ)) → Among earlier' earlier → SuitsAll marks n ms
      → All Obeys (places depth earlier ms) → All Obeys (places depth earlier' (filtered_all marks n ms))
  filtered_all_obey marks no_members n depth earlier earlier' among suit obey = All-nil Obeys
  filtered_all_obey marks (member m ms) n depth earlier earlier' among suit obey =
      let later : List Place = places depth (name_of m ∷ earlier) ms in
      let inside = all_rest Obeys (place depth earlier m) (part_places (depth + 1) m ++ later) obey in
      let rest = all_back Obeys (part_places (depth + 1) m) later inside in
      when_kept (has_mark marks n m) depth earlier' (filtered marks n m) (filtered_all marks (n + count m) ms)
      (λ has. filtered_obeys marks m n depth earlier earlier' among suit.0 has (all_first Obeys (place depth earlier m) (part_places (depth + 1) m ++ later) obey) (all_front Obeys (part_places (depth + 1) m) later inside))
      (filtered_all_obey marks ms (n + count m) depth (name_of m ∷ earlier) earlier' (among_more (name_of m) earlier' earlier among) suit.1 rest)
      (subst (λ name. All Obeys (places depth (name ∷ earlier') (filtered_all marks (n + count m) ms))) (sym (filtered_name marks n m))
      (filtered_all_obey marks ms (n + count m) depth (name_of m ∷ earlier) (name_of m ∷ earlier') (among_both (name_of m) earlier' earlier among) suit.1 rest))

-- there are no more members than before
marked_few : {X : Type 0} (change : List Slab → X → X) (marks : Marks) (n : ℕ) (xs : List X) → length (marked change marks n xs) ≤ length xs
marked_few change marks n [] = omega arith
marked_few change marks n (x ∷ xs) = by (marks n) (marked_few change marks (n + 1) xs)
  where
    by : (o : Option (List Slab)) → length (marked change marks (n + 1) xs) ≤ length xs
        → length (option_map_or (λ slabs. change slabs x ∷ marked change marks (n + 1) xs) o (marked change marks (n + 1) xs)) ≤ suc (length xs)
    by None few = omega arith
    by (Some slabs) few = omega arith

count_arrays : (arrays : List ArrayDecl) → count_all (members_of (map array arrays)) ≡ length arrays
count_arrays [] = refl
count_arrays (a ∷ arrays) = omega (arith, count_arrays arrays)

left_grid_count : (stays : Bool) (name : List ℕ) (arrays : List ArrayDecl) → count (left_grid stays name arrays) ≡ length arrays + 1
left_grid_count true name [] = refl
left_grid_count true name (a ∷ maps) = omega arith
left_grid_count false name arrays = ap (λ k. k + 1) (count_arrays arrays)

mutual
  filtered_few : (marks : Marks) (m : Member) (n : ℕ) → count (filtered marks n m) ≤ count m
  filtered_few marks (scalar column) n = omega arith
  filtered_few marks (array a) n = omega arith
  filtered_few marks (structure name parts) n = omega (arith, filtered_all_few marks parts (n + 1))
  filtered_few marks (grid name a maps) n =
      let few : length (marked counted marks (n + 1) (a ∷ maps)) ≤ length (a ∷ maps) = marked_few counted marks (n + 1) (a ∷ maps) in
      let is : count (filtered marks n (grid name a maps)) ≡ length (marked counted marks (n + 1) (a ∷ maps)) + 1 = left_grid_count (stays_grid marks n) name (marked counted marks (n + 1) (a ∷ maps)) in
      omega (arith, few, is)
  filtered_few marks (sequence name columns) n = omega (arith, marked_few unchanged marks (n + 1) columns)

  filtered_all_few : (marks : Marks) (ms : Members) (n : ℕ) → count_all (filtered_all marks n ms) ≤ count_all ms
  filtered_all_few marks no_members n = omega arith
  filtered_all_few marks (member m ms) n = by (has_mark marks n m) (filtered_few marks m n) (filtered_all_few marks ms (n + count m))
    where
      by : (b : Bool) → count (filtered marks n m) ≤ count m → count_all (filtered_all marks (n + count m) ms) ≤ count_all ms
          → count_all (if b then member (filtered marks n m) (filtered_all marks (n + count m) ms) else filtered_all marks (n + count m) ms) ≤ count m + count_all ms
      by true one rest = omega arith
      by false one rest = omega arith

pub stays_well_formed : (marks : Marks) (d : Dataset) → IsWellFormed d → SuitsAll marks 1 d.members → IsWellFormed (constrained marks d)
stays_well_formed marks d is suit =
    let obey = filtered_all_obey marks d.members 1 1 [] [] none_among suit (all_obey_where_well_formed d is) in
    let few = filtered_all_few marks d.members 1 in
    let before = length-places d.members 1 [] in
    let after = length-places (filtered_all marks 1 d.members) 1 [] in
    well_formed_where_all_obey (constrained marks d) (omega (arith, few, before, after, is.few)) obey
