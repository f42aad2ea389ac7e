-- The member that a path names is that of its number.
use Rattle.std.proofs.Common.{◌≡◌, ℕ, zero, suc, ◌+◌, ◌-◌, inl, inr, List, [], ◌∷◌, ◌++◌, length, map, slice_get, option_map, Some, refl, sym, ap, subst, ◌∙◌, arith}
use Rattle.std.specs.Cmp.Lexicographic.{pointwise}
use Rattle.std.specs.List.{AllZip}
use Rattle.std.specs.Str.{bytes_eq}
use Rattle.std.proofs.lemmas.List.{length-map}
use Rattle.std.proofs.lemmas.Option.{slice_get-map, slice_get_within, none-some, same_Some}
use Rattle.plain_lemmas.proofs.Lists.{front_get}
use Rattle.dap_types.proofs.Found.{same_path}
use Rattle.dap_types.proofs.Numbering.{length-part_paths}
use Rattle.dap_types.proofs.Preorder.{length-preorder, member_at-get}
use Rattle.dap_types.proofs.PreorderPlaces.{back_get}
use Rattle.dap_types.specs.Model.{Member, scalar, array, structure, grid, sequence, Members, no_members, member, members_of, Dataset, name_of}
use Rattle.dap_types.specs.Preorder.{preorder, preorder_all}
use Rattle.dap_types.specs.WellFormed.{IsWellFormed, member_at, number_of, part_paths, paths}
use Rattle.dap_types.specs.declared.declarations.ArrayDecl.{ArrayDecl}
use Rattle.dap_types.specs.declared.declarations.Column.{Column}
use Rattle.dap_model.proofs.Numbering.{found_at, paths_have_numbers}
use Rattle.dap_model.specs.Numbering.{IsAmong, Names, parts_of}

abbrev Path : Type 0
Path = List (List ℕ)

-- a member's parts and theirs in order
abbrev inner : Member → List Member
inner m = preorder_all (parts_of m)

leaves_alone : {X : Type 0} (leaf : X → Member) → ((x : X) → preorder (leaf x) ≡ leaf x ∷ []) → (xs : List X) → preorder_all (members_of (map leaf xs)) ≡ map leaf xs
leaves_alone leaf one [] = refl
leaves_alone leaf one (x ∷ xs) = ap (λ l. l ++ preorder_all (members_of (map leaf xs))) (one x) ∙ ap (λ l. leaf x ∷ l) (leaves_alone leaf one xs)

-- a member comes before its parts
before_parts : (m : Member) → preorder m ≡ m ∷ inner m
before_parts (scalar column) = refl
before_parts (array a) = refl
before_parts (structure name parts) = refl
before_parts (grid name a maps) = ap (λ l. grid name a maps ∷ l) (sym (leaves_alone array (λ b. refl) (a ∷ maps)))
before_parts (sequence name columns) = ap (λ l. sequence name columns ∷ l) (sym (leaves_alone scalar (λ c. refl) columns))

array_paths : (xs : List ArrayDecl) → paths (members_of (map array xs)) ≡ map (λ b. b.name ∷ []) xs
array_paths [] = refl
array_paths (x ∷ xs) = ap (λ l. (x.name ∷ []) ∷ l) (array_paths xs)

column_paths : (xs : List Column) → paths (members_of (map scalar xs)) ≡ map (λ c. c.name ∷ []) xs
column_paths [] = refl
column_paths (x ∷ xs) = ap (λ l. (x.name ∷ []) ∷ l) (column_paths xs)

-- the paths of parts are those of the members that the parts are
paths_of_parts : (m : Member) → paths (parts_of m) ≡ part_paths m
paths_of_parts (scalar column) = refl
paths_of_parts (array a) = refl
paths_of_parts (structure name parts) = refl
paths_of_parts (grid name a maps) = array_paths (a ∷ maps)
paths_of_parts (sequence name columns) = column_paths columns

-- the paths and the members of a level, side by side
abbrev AreNamed : Members → List Path → List Member → Type 0
AreNamed ms ps xs = AllZip (λ p x. Names p ms x) ps xs

module _ {X Y : Type 0} where
  zip_append : (R : X → Y → Type 0) (xs xs' : List X) (ys ys' : List Y) → AllZip R xs ys → AllZip R xs' ys' → AllZip R (xs ++ xs') (ys ++ ys')
  zip_append R [] xs' [] ys' first second = second
  zip_append R [] xs' (y ∷ ys) ys' first second = absurd first
  zip_append R (x ∷ xs) xs' [] ys' first second = absurd first
  zip_append R (x ∷ xs) xs' (y ∷ ys) ys' first second = (first.0, zip_append R xs xs' ys ys' first.1 second)

  zip_map : (R S : X → Y → Type 0) (f : X → X) → ((x : X) (y : Y) → R x y → S (f x) y) → (xs : List X) (ys : List Y) → AllZip R xs ys → AllZip S (map f xs) ys
  zip_map R S f each [] [] all = tt
  zip_map R S f each [] (y ∷ ys) all = absurd all
  zip_map R S f each (x ∷ xs) [] all = absurd all
  zip_map R S f each (x ∷ xs) (y ∷ ys) all = (each x y all.0, zip_map R S f each xs ys all.1)

  zip_only : (R S : X → Y → Type 0) → ((x : X) (y : Y) → R x y → S x y) → (xs : List X) (ys : List Y) → AllZip R xs ys → AllZip S xs ys
  zip_only R S each [] [] all = tt
  zip_only R S each [] (y ∷ ys) all = absurd all
  zip_only R S each (x ∷ xs) [] all = absurd all
  zip_only R S each (x ∷ xs) (y ∷ ys) all = (each x y all.0, zip_only R S each xs ys all.1)

  zip_at : (R : X → Y → Type 0) (xs : List X) (ys : List Y) (k : ℕ) (x : X) → AllZip R xs ys → slice_get xs k ≡ Some x → (y : Y) × (slice_get ys k ≡ Some y) × R x y
  zip_at R [] ys k x all is = absurd (none-some x is)
  zip_at R (z ∷ xs) [] k x all is = absurd all
  zip_at R (z ∷ xs) (y ∷ ys) zero x all is = (y, refl, subst (λ w. R w y) (same_Some z x is) all.0)
  zip_at R (z ∷ xs) (y ∷ ys) (suc k) x all is = zip_at R xs ys k x all.1 is

-- what a path names among members it names among more
later : (p : Path) (ms : Members) (y m : Member) → Names p ms m → Names p (member y ms) m
later [] ms y m names = names
later (x ∷ []) ms y m (among, is) = (inr among, is)
later (x ∷ z ∷ p) ms y m (whole, among, is, rest) = (whole, inr among, is, rest)

-- and among parts it names below their whole
below : (p : Path) (w : Member) (ms : Members) (m : Member) → Names p (parts_of w) m → Names (name_of w ∷ p) (member w ms) m
below [] w ms m names = absurd names
below (x ∷ p) w ms m names = (w, inl refl, refl, names)

leaves_named : {X : Type 0} (leaf : X → Member) (name : X → List ℕ) → ((x : X) → name_of (leaf x) ≡ name x) → (xs : List X) → AreNamed (members_of (map leaf xs)) (map (λ x. name x ∷ []) xs) (map leaf xs)
leaves_named leaf name is [] = tt
leaves_named leaf name is (x ∷ xs) = (
  (inl refl, is x),
  zip_only (λ p m. Names p (members_of (map leaf xs)) m) (λ p m. Names p (members_of (map leaf (x ∷ xs))) m) (λ p m names. later p (members_of (map leaf xs)) (leaf x) m names)
      (map (λ y. name y ∷ []) xs) (map leaf xs) (leaves_named leaf name is xs),
)

mutual
  parts_named : (m : Member) → AreNamed (parts_of m) (part_paths m) (inner m)
  parts_named (scalar column) = tt
  parts_named (array a) = tt
  parts_named (structure name parts) = all_named parts
  parts_named (grid name a maps) =
      subst (AreNamed (members_of (map array (a ∷ maps))) (map (λ (b : ArrayDecl). b.name ∷ []) (a ∷ maps))) (sym (leaves_alone array (λ b. refl) (a ∷ maps)))
      (leaves_named array (λ b. b.name) (λ b. refl) (a ∷ maps))
  parts_named (sequence name columns) =
      subst (AreNamed (members_of (map scalar columns)) (map (λ (c : Column). c.name ∷ []) columns)) (sym (leaves_alone scalar (λ c. refl) columns))
      (leaves_named scalar (λ c. c.name) (λ c. refl) columns)

  all_named : (ms : Members) → AreNamed ms (paths ms) (preorder_all ms)
  all_named no_members = tt
  all_named (member m ms) =
      let here : AreNamed (member m ms) ((name_of m ∷ []) ∷ map (λ path. name_of m ∷ path) (part_paths m)) (m ∷ inner m) = (
        (inl refl, refl),
        zip_map (λ p x. Names p (parts_of m) x) (λ p x. Names p (member m ms) x) (λ path. name_of m ∷ path) (λ p x names. below p m ms x names) (part_paths m) (inner m) (parts_named m),
      ) in
      let rest : AreNamed (member m ms) (paths ms) (preorder_all ms) =
      zip_only (λ p x. Names p ms x) (λ p x. Names p (member m ms) x) (λ p x names. later p ms m x names) (paths ms) (preorder_all ms) (all_named ms) in
      zip_append (λ p x. Names p (member m ms) x) ((name_of m ∷ []) ∷ map (λ path. name_of m ∷ path) (part_paths m)) (paths ms) (preorder m) (preorder_all ms)
      (subst (AreNamed (member m ms) ((name_of m ∷ []) ∷ map (λ path. name_of m ∷ path) (part_paths m))) (sym (before_parts m)) here) rest

pub numbers_are_of_named : (d : Dataset) (path : List (List ℕ)) (n : ℕ) → number_of d path ≡ Some n → (m : Member) × (member_at d n ≡ Some m) × Names path d.members m
numbers_are_of_named d path n is =
    let (k, p, at, get, passes) = found_at (pointwise bytes_eq path) (paths d.members) 1 n is in
    let (m, there, names) = zip_at (λ p x. Names p d.members x) (paths d.members) (preorder_all d.members) k p (all_named d.members) get in
    let number : n - 1 ≡ k = omega (arith, at) in (
      m,
      member_at-get d n (omega (arith, at)) ∙ ap (slice_get (preorder_all d.members)) number ∙ there,
      subst (λ q. Names q d.members m) (sym (same_path path p passes)) names,
    )

-- where a member of a level and its parts stand, among the paths and among the members
record StandsIn (ms : Members) (w : Member) : Type 0 where
  at : ℕ
  path_is : slice_get (paths ms) at ≡ Some (name_of w ∷ [])
  member_is : slice_get (preorder_all ms) at ≡ Some w
  part_path_is : (j : ℕ) (p : Path) → slice_get (part_paths w) j ≡ Some p → slice_get (paths ms) (at + 1 + j) ≡ Some (name_of w ∷ p)
  part_is : (j : ℕ) (x : Member) → slice_get (inner w) j ≡ Some x → slice_get (preorder_all ms) (at + 1 + j) ≡ Some x

first_stands : (w : Member) (ms : Members) → StandsIn (member w ms) w
first_stands w ms = record {
  at = 0;
  path_is = refl;
  member_is = ap (λ l. slice_get (l ++ preorder_all ms) 0) (before_parts w);
  part_path_is = λ j p is.
      back_get ((name_of w ∷ []) ∷ []) (map (λ path. name_of w ∷ path) (part_paths w) ++ paths ms) j (0 + 1 + j) (omega arith)
      ∙ front_get (map (λ path. name_of w ∷ path) (part_paths w)) (paths ms) j (omega (arith, slice_get_within (part_paths w) j p is, length-map (part_paths w) (λ path. name_of w ∷ path)))
      ∙ slice_get-map (λ path. name_of w ∷ path) (part_paths w) j ∙ ap (option_map (λ path. name_of w ∷ path)) is;
  part_is = λ j x is.
      ap (λ l. slice_get (l ++ preorder_all ms) (0 + 1 + j)) (before_parts w)
      ∙ back_get (w ∷ []) (inner w ++ preorder_all ms) j (0 + 1 + j) (omega arith)
      ∙ front_get (inner w) (preorder_all ms) j (slice_get_within (inner w) j x is) ∙ is;
}

later_stands : (y w : Member) (ms : Members) → StandsIn ms w → StandsIn (member y ms) w
later_stands y w ms s =
    let front : List Path = (name_of y ∷ []) ∷ map (λ path. name_of y ∷ path) (part_paths y) in
    let long : length front ≡ length (preorder y) = omega (arith, length-map (part_paths y) (λ path. name_of y ∷ path), length-part_paths y, length-preorder y) in
    record {
      at = length (preorder y) + s.at;
      path_is = back_get front (paths ms) s.at (length (preorder y) + s.at) (omega (arith, long)) ∙ s.path_is;
      member_is = back_get (preorder y) (preorder_all ms) s.at (length (preorder y) + s.at) refl ∙ s.member_is;
      part_path_is = λ j p is. back_get front (paths ms) (s.at + 1 + j) (length (preorder y) + s.at + 1 + j) (omega (arith, long)) ∙ s.part_path_is j p is;
      part_is = λ j x is. back_get (preorder y) (preorder_all ms) (s.at + 1 + j) (length (preorder y) + s.at + 1 + j) (omega arith) ∙ s.part_is j x is;
    }

stands_in : (ms : Members) (w : Member) → IsAmong w ms → StandsIn ms w
stands_in no_members w among = absurd among
stands_in (member y ms) w (inl same) = subst (λ z. StandsIn (member y ms) z) (sym same) (first_stands y ms)
stands_in (member y ms) w (inr among) = later_stands y w ms (stands_in ms w among)

-- a path and the member that it names stand at one place
one_place : (path : Path) (ms : Members) (m : Member) → Names path ms m → (k : ℕ) × (slice_get (paths ms) k ≡ Some path) × (slice_get (preorder_all ms) k ≡ Some m)
one_place [] ms m names = absurd names
one_place (x ∷ []) ms m (among, is) =
    let s = stands_in ms m among in (s.at, s.path_is ∙ ap (λ n. Some (n ∷ [])) is, s.member_is)
one_place (x ∷ y ∷ path) ms m (whole, among, is, rest) =
    let s = stands_in ms whole among in
    let (j, path_at, member_at_j) = one_place (y ∷ path) (parts_of whole) m rest in (
      s.at + 1 + j,
      s.part_path_is j (y ∷ path) (ap (λ l. slice_get l j) (sym (paths_of_parts whole)) ∙ path_at) ∙ ap (λ n. Some (n ∷ y ∷ path)) is,
      s.part_is j m member_at_j,
    )

pub named_have_numbers : (d : Dataset) (path : List (List ℕ)) (m : Member) → IsWellFormed d → Names path d.members m → (n : ℕ) × (number_of d path ≡ Some n) × (member_at d n ≡ Some m)
named_have_numbers d path m is names =
    let (k, path_at, member_at_k) = one_place path d.members m names in
    let number : k + 1 - 1 ≡ k = omega arith in
    (k + 1, paths_have_numbers d k path is path_at, member_at-get d (k + 1) (omega arith) ∙ ap (slice_get (preorder_all d.members)) number ∙ member_at_k)
