-- In a well-formed dataset different members have different paths.
use Rattle.std.proofs.Common.{◌≡◌, ◌≢◌, ℕ, zero, suc, ◌+◌, List, [], ◌∷◌, ◌++◌, map, All, AllPairs, Contains, refl, ap, sym, subst, arith}
use Rattle.std.proofs.lemmas.List.Elements.{All-append, All-cons, All-map, All-nil}
use Rattle.std.specs.Bool.{⊤}
use Rattle.dap_types.specs.Model.{Member, scalar, array, structure, grid, sequence, Members, no_members, member, Dataset, name_of}
use Rattle.dap_types.specs.WellFormed.{Place, place, places, part_places, leaf_places, paths, part_paths, IsWellFormed}
use Rattle.dap_types.specs.declared.declarations.ArrayDecl.{ArrayDecl}
use Rattle.dap_types.specs.declared.declarations.Column.{Column}
use Rattle.dap_model.proofs.Values.{all_first, all_rest, all_front, all_back}

abbrev Path : Type 0
Path = List (List ℕ)

abbrev Names : Type 0
Names = List (List ℕ)

-- no two are the same
abbrev Apart : List Path → Type 0
Apart [] = ⊤
Apart (p ∷ ps) = All (λ q. p ≢ q) ps × Apart ps

apart_pairs : (ps : List Path) → Apart ps → AllPairs (λ p q. p ≢ q) ps
apart_pairs [] apart i j d lt within = absurd (omega arith)
apart_pairs (p ∷ ps) apart zero zero d lt within = absurd (omega arith)
apart_pairs (p ∷ ps) apart (suc i) zero d lt within = absurd (omega arith)
apart_pairs (p ∷ ps) apart zero (suc j) d lt within = apart.0 j d (omega arith)
apart_pairs (p ∷ ps) apart (suc i) (suc j) d lt within = apart_pairs ps apart.1 i j d (omega arith) (omega arith)

apart_append : (ps qs : List Path) → Apart ps → Apart qs → All (λ p. All (λ q. p ≢ q) qs) ps → Apart (ps ++ qs)
apart_append [] qs first second between = second
apart_append (p ∷ ps) qs first second between =
    (All-append (λ q. p ≢ q) ps qs first.0 (all_first (λ p. All (λ q. p ≢ q) qs) p ps between), apart_append ps qs first.1 second (all_rest (λ p. All (λ q. p ≢ q) qs) p ps between))

-- a path below x
under_same : (x y : List ℕ) (p q : Path) → x ∷ p ≡ y ∷ q → (x ≡ y) × (p ≡ q)
under_same x y p q is = ((cc), (cc))

apart_below : (x : List ℕ) (ps : List Path) → Apart ps → Apart (map (λ p. x ∷ p) ps)
apart_below x [] apart = tt
apart_below x (p ∷ ps) apart =
    (All-map (λ q. (x ∷ p) ≢ q) (λ q. x ∷ q) ps (λ k d lt same. apart.0 k d lt (under_same x x p _ same).1), apart_below x ps apart.1)

-- the path does not begin with the name
abbrev NotUnder : List ℕ → Path → Type 0
NotUnder x path = (rest : Path) → path ≢ x ∷ rest

abbrev Differs : Place → Type 0
Differs p = ¬ Contains p.earlier (name_of p.variable)

other : (earlier : Names) (x y : List ℕ) → ¬ Contains earlier y → Contains earlier x → y ≢ x
other earlier x y differs has same = differs (subst (Contains earlier) (sym same) has)

later_too : (x : List ℕ) (xs : Names) (y : List ℕ) → Contains xs y → Contains (x ∷ xs) y
later_too x xs y has = (suc has.0, omega (arith, has.1), has.2)

first_is : (x : List ℕ) (xs : Names) → Contains (x ∷ xs) x
first_is x xs = (0, omega arith, refl)

-- paths of a level do not begin with an earlier name of it
not_under : (ms : Members) (depth : ℕ) (earlier : Names) (x : List ℕ) → All Differs (places depth earlier ms) → Contains earlier x → All (NotUnder x) (paths ms)
not_under no_members depth earlier x differ has = All-nil (NotUnder x)
not_under (member m ms) depth earlier x differ has =
    let later : List Place = places depth (name_of m ∷ earlier) ms in
    let here = other earlier x (name_of m) (all_first Differs (place depth earlier m) (part_places (depth + 1) m ++ later) differ) has in
    let rest = all_back Differs (part_places (depth + 1) m) later (all_rest Differs (place depth earlier m) (part_places (depth + 1) m ++ later) differ) in
    All-cons (NotUnder x) (name_of m ∷ []) (map (λ path. name_of m ∷ path) (part_paths m) ++ paths ms)
    (λ rest' same. here (under_same (name_of m) x [] rest' same).0)
    (All-append (NotUnder x) (map (λ path. name_of m ∷ path) (part_paths m)) (paths ms)
    (All-map (NotUnder x) (λ path. name_of m ∷ path) (part_paths m) (λ k d lt rest' same. here (under_same (name_of m) x _ rest' same).0))
    (not_under ms depth (name_of m ∷ earlier) x rest (later_too (name_of m) earlier x has)))

-- no path is empty
abbrev Some : Path → Type 0
Some path = path ≢ []

abbrev single : Member → Path
single m = name_of m ∷ []

singles_some : (ms : List Member) → All Some (map single ms)
singles_some ms = All-map Some single ms (λ k d lt same. cc)

mutual
  parts_some : (m : Member) → All Some (part_paths m)
  parts_some (scalar column) = All-nil Some
  parts_some (array a) = All-nil Some
  parts_some (structure name parts) = paths_some parts
  parts_some (grid name a maps) = All-map Some (λ (b : ArrayDecl). b.name ∷ []) (a ∷ maps) (λ k d lt same. cc)
  parts_some (sequence name columns) = All-map Some (λ (c : Column). c.name ∷ []) columns (λ k d lt same. cc)

  paths_some : (ms : Members) → All Some (paths ms)
  paths_some no_members = All-nil Some
  paths_some (member m ms) =
      All-cons Some (name_of m ∷ []) (map (λ path. name_of m ∷ path) (part_paths m) ++ paths ms) (λ same. cc)
      (All-append Some (map (λ path. name_of m ∷ path) (part_paths m)) (paths ms) (All-map Some (λ path. name_of m ∷ path) (part_paths m) (λ k d lt same. cc)) (paths_some ms))

-- leaves of one level
leaves_not : (ms : List Member) (depth : ℕ) (earlier : Names) (x : List ℕ) → All Differs (leaf_places depth earlier ms) → Contains earlier x → All (λ q. (x ∷ []) ≢ q) (map single ms)
leaves_not [] depth earlier x differ has = All-nil (λ q. (x ∷ []) ≢ q)
leaves_not (m ∷ ms) depth earlier x differ has =
    let here = other earlier x (name_of m) (all_first Differs (place depth earlier m) (leaf_places depth (name_of m ∷ earlier) ms) differ) has in
    All-cons (λ q. (x ∷ []) ≢ q) (single m) (map single ms) (λ same. here (sym (under_same x (name_of m) [] [] same).0))
    (leaves_not ms depth (name_of m ∷ earlier) x (all_rest Differs (place depth earlier m) (leaf_places depth (name_of m ∷ earlier) ms) differ) (later_too (name_of m) earlier x has))

leaves_apart : (ms : List Member) (depth : ℕ) (earlier : Names) → All Differs (leaf_places depth earlier ms) → Apart (map single ms)
leaves_apart [] depth earlier differ = tt
leaves_apart (m ∷ ms) depth earlier differ =
    let rest = all_rest Differs (place depth earlier m) (leaf_places depth (name_of m ∷ earlier) ms) differ in
    (leaves_not ms depth (name_of m ∷ earlier) (name_of m) rest (first_is (name_of m) earlier), leaves_apart ms depth (name_of m ∷ earlier) rest)

array_paths : (arrays : List ArrayDecl) → map single (map array arrays) ≡ map (λ b. b.name ∷ []) arrays
array_paths [] = refl
array_paths (a ∷ arrays) = ap (λ ps. (a.name ∷ []) ∷ ps) (array_paths arrays)

column_paths : (columns : List Column) → map single (map scalar columns) ≡ map (λ c. c.name ∷ []) columns
column_paths [] = refl
column_paths (c ∷ columns) = ap (λ ps. (c.name ∷ []) ∷ ps) (column_paths columns)

mutual
  parts_apart : (m : Member) (depth : ℕ) → All Differs (part_places depth m) → Apart (part_paths m)
  parts_apart (scalar column) depth differ = tt
  parts_apart (array a) depth differ = tt
  parts_apart (structure name parts) depth differ = paths_apart parts depth [] differ
  parts_apart (grid name a maps) depth differ = subst Apart (array_paths (a ∷ maps)) (leaves_apart (map array (a ∷ maps)) depth [] differ)
  parts_apart (sequence name columns) depth differ = subst Apart (column_paths columns) (leaves_apart (map scalar columns) depth [] differ)

  paths_apart : (ms : Members) (depth : ℕ) (earlier : Names) → All Differs (places depth earlier ms) → Apart (paths ms)
  paths_apart no_members depth earlier differ = tt
  paths_apart (member m ms) depth earlier differ =
      let later : List Place = places depth (name_of m ∷ earlier) ms in
      let behind = all_rest Differs (place depth earlier m) (part_places (depth + 1) m ++ later) differ in
      let rest = all_back Differs (part_places (depth + 1) m) later behind in
      let below : List Path = map (λ path. name_of m ∷ path) (part_paths m) in
      let away : All (NotUnder (name_of m)) (paths ms) = not_under ms depth (name_of m ∷ earlier) (name_of m) rest (first_is (name_of m) earlier) in (
        All-append (λ q. (name_of m ∷ []) ≢ q) below (paths ms)
            (All-map (λ q. (name_of m ∷ []) ≢ q) (λ path. name_of m ∷ path) (part_paths m) (λ k d lt same. parts_some m k d lt (sym (under_same (name_of m) (name_of m) [] _ same).1)))
            (λ k d lt same. away k d lt [] (sym same)),
        apart_append below (paths ms) (apart_below (name_of m) (part_paths m) (parts_apart m (depth + 1) (all_front Differs (part_places (depth + 1) m) later behind)))
            (paths_apart ms depth (name_of m ∷ earlier) rest)
            (All-map (λ p. All (λ q. p ≢ q) (paths ms)) (λ path. name_of m ∷ path) (part_paths m) (λ j e lt' k d lt same. away k d lt _ (sym same))),
      )

pub paths_differ : (d : Dataset) → IsWellFormed d → AllPairs (λ p q. p ≢ q) (paths d.members)
paths_differ d is = apart_pairs (paths d.members) (paths_apart d.members 1 [] is.names_differ)
