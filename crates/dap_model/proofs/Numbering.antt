-- The three ways to number members agree: by place, by path, and by counting.
use Rattle.std.proofs.Common.{◌≡◌, ◌≢◌, ℕ, zero, suc, ◌+◌, ◌<◌, List, [], ◌∷◌, ◌++◌, length, map, AllPairs, get_or, slice_get, Option, Some, None, Bool, true, false, cond, refl, sym, ap, ◌∙◌, arith}
use Rattle.std.specs.Cmp.Lexicographic.{pointwise}
use Rattle.std.specs.List.{last_or, position_from}
use Rattle.std.specs.Str.{bytes_eq}
use Rattle.std.proofs.lemmas.List.{map-append}
use Rattle.std.proofs.lemmas.Option.{none-some, same_Some}
use Rattle.std.proofs.lemmas.Slice.Eq.{bytes_eq-Decides}
use Rattle.dap_types.proofs.Faults.{length-places}
use Rattle.dap_types.proofs.Found.{same_path}
use Rattle.dap_types.specs.Model.{Member, scalar, array, structure, grid, sequence, Members, no_members, member, Dataset, name_of, count_all}
use Rattle.dap_types.specs.WellFormed.{Place, leaf_places, part_places, places, places_of, part_paths, paths, number_of, IsWellFormed}
use Rattle.dap_types.specs.declared.declarations.ArrayDecl.{ArrayDecl}
use Rattle.dap_types.specs.declared.declarations.Column.{Column}
use Rattle.dap_model.proofs.Paths.{paths_differ}

abbrev Path : Type 0
Path = List (List ℕ)

-- what paths end with, below a name
abbrev ends : Option (List ℕ) → List Path → List (Option (List ℕ))
ends o ps = map (last_or o) ps

abbrev named : List Place → List (Option (List ℕ))
named ps = map (λ p. Some (name_of p.variable)) ps

below : (o : Option (List ℕ)) (n : List ℕ) (ps : List Path) → ends o (map (λ path. n ∷ path) ps) ≡ ends (Some n) ps
below o n [] = refl
below o n (p ∷ ps) = ap (λ r. last_or (Some n) p ∷ r) (below o n ps)

array_names : (o : Option (List ℕ)) (xs : List ArrayDecl) (depth : ℕ) (earlier : List (List ℕ)) → ends o (map (λ b. b.name ∷ []) xs) ≡ named (leaf_places depth earlier (map array xs))
array_names o [] depth earlier = refl
array_names o (x ∷ xs) depth earlier = ap (λ r. Some x.name ∷ r) (array_names o xs depth (x.name ∷ earlier))

column_names : (o : Option (List ℕ)) (xs : List Column) (depth : ℕ) (earlier : List (List ℕ)) → ends o (map (λ c. c.name ∷ []) xs) ≡ named (leaf_places depth earlier (map scalar xs))
column_names o [] depth earlier = refl
column_names o (x ∷ xs) depth earlier = ap (λ r. Some x.name ∷ r) (column_names o xs depth (x.name ∷ earlier))

mutual
  part_names : (o : Option (List ℕ)) (depth : ℕ) (m : Member) → ends o (part_paths m) ≡ named (part_places depth m)
  part_names o depth (scalar column) = refl
  part_names o depth (array a) = refl
  part_names o depth (structure name parts) = names o depth [] parts
  part_names o depth (grid name a maps) = array_names o (a ∷ maps) depth []
  part_names o depth (sequence name columns) = column_names o columns depth []

  names : (o : Option (List ℕ)) (depth : ℕ) (earlier : List (List ℕ)) (ms : Members) → ends o (paths ms) ≡ named (places depth earlier ms)
  names o depth earlier no_members = refl
  names o depth earlier (member m ms) =
      ap (λ r. Some (name_of m) ∷ r)
      (map-append (last_or o) (map (λ path. name_of m ∷ path) (part_paths m)) (paths ms)
      ∙ ap (λ r. r ++ ends o (paths ms)) (below o (name_of m) (part_paths m) ∙ part_names (Some (name_of m)) (depth + 1) m)
      ∙ ap (λ r. named (part_places (depth + 1) m) ++ r) (names o depth (name_of m ∷ earlier) ms)
      ∙ sym (map-append (λ p. Some (name_of p.variable)) (part_places (depth + 1) m) (places depth (name_of m ∷ earlier) ms)))

pub paths_name_members : (d : Dataset) → map (last_or None) (paths d.members) ≡ map (λ p. Some (name_of p.variable)) (places_of d)
paths_name_members d = names None 1 [] d.members

pub members_are_counted : (d : Dataset) → length (places_of d) ≡ count_all d.members
members_are_counted d = length-places d.members 1 []

-- a number that is found is that of an element that passes
pub found_at : {X : Type 0} (test : X → Bool) (xs : List X) (i n : ℕ) → position_from test i xs ≡ Some n → (k : ℕ) × (x : X) × (n ≡ i + k) × (slice_get xs k ≡ Some x) × (test x ≡ true)
found_at test [] i n is = absurd (none-some n is)
found_at {X} test (x ∷ xs) i n is = by (test x) refl is (λ e. found_at test xs (i + 1) n e)
  where
    by : (b : Bool) → test x ≡ b → cond b (Some i) (position_from test (i + 1) xs) ≡ Some n
        → (position_from test (i + 1) xs ≡ Some n → (k : ℕ) × (y : X) × (n ≡ i + 1 + k) × (slice_get xs k ≡ Some y) × (test y ≡ true))
        → (k : ℕ) × (y : X) × (n ≡ i + k) × (slice_get (x ∷ xs) k ≡ Some y) × (test y ≡ true)
    by true passes e rest = (zero, x, (let same : i ≡ n = same_Some i n e in omega arith), refl, passes)
    by false fails e rest = let (k, y, at, get, passes) = rest e in (suc k, y, omega (arith, at), get, passes)

-- a path passes its own test
own_path : (p : Path) → pointwise bytes_eq p p ≡ true
own_path [] = refl
own_path (x ∷ xs) = let first : bytes_eq x x ≡ true = (bytes_eq-Decides x x).1 refl in rw first (own_path xs)

first_passes : (p : Path) (ps : List Path) (i k : ℕ) → slice_get ps k ≡ Some p → ((j : ℕ) (q : Path) → j < k → slice_get ps j ≡ Some q → q ≢ p) → position_from (pointwise bytes_eq p) i ps ≡ Some (i + k)
first_passes p [] i k get apart = absurd (none-some p get)
first_passes p (q ∷ qs) i zero get apart =
    let same : q ≡ p = same_Some q p get in
    let passes : pointwise bytes_eq p q ≡ true = ap (pointwise bytes_eq p) same ∙ own_path p in
    rw passes (ap Some (omega arith))
first_passes p (q ∷ qs) i (suc k) get apart = by (pointwise bytes_eq p q) refl (first_passes p qs (i + 1) k get (λ j r lt at. apart (suc j) r (omega arith) at))
  where
    by : (b : Bool) → pointwise bytes_eq p q ≡ b → position_from (pointwise bytes_eq p) (i + 1) qs ≡ Some (i + 1 + k) → cond b (Some i) (position_from (pointwise bytes_eq p) (i + 1) qs) ≡ Some (i + suc k)
    by true passes rest = absurd (apart 0 q (omega arith) refl (sym (same_path p q passes)))
    by false fails rest = rest ∙ ap Some (omega arith)

-- two elements of a list at different places
pairs_apart : (ps : List Path) (j k : ℕ) (p q : Path) → AllPairs (λ x y. x ≢ y) ps → j < k → slice_get ps j ≡ Some q → slice_get ps k ≡ Some p → q ≢ p
pairs_apart ps j k p q apart lt here there same = apart j k q lt (within ps k p there) (get_at ps j q q here ∙ same ∙ sym (get_at ps k p q there))
  where
    within : (ps : List Path) (k : ℕ) (p : Path) → slice_get ps k ≡ Some p → k < length ps
    within [] k p is = absurd (none-some p is)
    within (x ∷ ps) zero p is = omega arith
    within (x ∷ ps) (suc k) p is = omega (arith, within ps k p is)

    get_at : (ps : List Path) (k : ℕ) (p d : Path) → slice_get ps k ≡ Some p → get_or ps k d ≡ p
    get_at [] k p d is = absurd (none-some p is)
    get_at (x ∷ ps) zero p d is = same_Some x p is
    get_at (x ∷ ps) (suc k) p d is = get_at ps k p d is

pub paths_have_numbers : (d : Dataset) (k : ℕ) (path : List (List ℕ)) → IsWellFormed d → slice_get (paths d.members) k ≡ Some path → number_of d path ≡ Some (k + 1)
paths_have_numbers d k path is get =
    first_passes path (paths d.members) 1 k get (λ j q lt at. pairs_apart (paths d.members) j k path q (paths_differ d is) lt at get) ∙ ap Some (omega arith)
