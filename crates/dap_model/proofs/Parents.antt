-- The whole that a member is a part of, by its path.
use Rattle.std.proofs.Common.{◌≡◌, ◌≢◌, ℕ, zero, suc, ◌+◌, ◌-◌, ◌<◌, ◌≤◌, ⊎_elim, Bool, true, false, cond, List, [], ◌∷◌, ◌++◌, length, map, slice_get, AllPairs, Option, Some, None, option_map, refl, ap, ◌∙◌, sym, subst, arith}
use Rattle.std.specs.Cmp.{ranks}
use Rattle.std.specs.Cmp.Lexicographic.{pointwise}
use Rattle.std.specs.Ordering.{MatchOrdering, nat_cmp}
use Rattle.std.specs.declared.cmp.Ordering.{Ordering}
use Rattle.std.specs.declared.cmp.Ordering.TheVariants as orders
use Rattle.std.specs.List.{position_from}
use Rattle.std.specs.Str.{bytes_eq}
use Rattle.std.proofs.lemmas.List.{length-map}
use Rattle.std.proofs.lemmas.Option.{none-some, same_Some, slice_get-map, slice_get_within, get_or_from_slice_get}
use Rattle.std.proofs.lemmas.Slice.Eq.{bytes_eq-Decides, slice_eq-Decides}
use Rattle.plain_lemmas.proofs.Lists.{front_get}
use Rattle.dap_types.specs.Model.{Member, scalar, array, structure, grid, sequence, Members, no_members, member, Dataset, name_of, count}
use Rattle.dap_types.specs.WellFormed.{IsWellFormed, number_of, part_paths, paths}
use Rattle.dap_types.specs.Preorder.{preorder, preorder_all}
use Rattle.dap_types.proofs.Numbering.{length-part_paths}
use Rattle.dap_types.proofs.Preorder.{length-preorder}
use Rattle.dap_types.proofs.PreorderPlaces.{back_get, in_front}
use Rattle.dap_model.proofs.Paths.{paths_differ}

abbrev pub Path : Type 0
Path = List (List ℕ)

-- the part at place k has this path: its whole stands before it, with that path but for the last name
pub record IsPart (ms : Members) (k : ℕ) (whole : Path) (name : List ℕ) : Type 0 where
  pub at : ℕ
  pub place : ℕ
  pub variable : Member
  pub path_is : slice_get (paths ms) at ≡ Some whole
  pub member_is : slice_get (preorder_all ms) at ≡ Some variable
  pub part_is : slice_get (part_paths variable) place ≡ Some (name ∷ [])
  pub count : k ≡ at + 1 + place

not-empty : (rest : Path) (name : List ℕ) → [] ≡ rest ++ name ∷ [] → ⊥
not-empty [] name is = cc is
not-empty (x ∷ rest) name is = cc is

one-name : (n b : List ℕ) (more : Path) (name : List ℕ) → n ∷ [] ≡ b ∷ (more ++ name ∷ []) → ⊥
one-name n b more name is = not-empty more name (cc is)

-- what is mapped to an item of a mapped list
pub mapped-from : {X Y : Type 0} (f : X → Y) (xs : List X) (k : ℕ) (y : Y) → slice_get (map f xs) k ≡ Some y → (x : X) × (slice_get xs k ≡ Some x) × (f x ≡ y)
mapped-from {X = X} f xs k y is = by (slice_get xs k) refl (sym (slice_get-map f xs k) ∙ is)
  where
    by : (o : Option X) → slice_get xs k ≡ o → option_map f o ≡ Some y → (x : X) × (slice_get xs k ≡ Some x) × (f x ≡ y)
    by None here e = absurd (none-some y e)
    by (Some x) here e = (x, here, same_Some (f x) y e)

pub in-first : {X : Type 0} (xs ys : List X) (k : ℕ) (x : X) → slice_get xs k ≡ Some x → slice_get (xs ++ ys) k ≡ Some x
in-first xs ys k x is = front_get xs ys k (slice_get_within xs k x is) ∙ is

no-longer : {X : Type 0} (name_in : X → List ℕ) (xs : List X) (k : ℕ) (b : List ℕ) (more : Path) (name : List ℕ) → slice_get (map (λ x. name_in x ∷ []) xs) k ≡ Some (b ∷ (more ++ name ∷ [])) → ⊥
no-longer name_in xs k b more name is =
    let (x, here, same) = mapped-from (λ y. name_in y ∷ []) xs k (b ∷ (more ++ name ∷ [])) is in
    one-name (name_in x) b more name same

-- the paths of a member's parts, from the top
abbrev mine : Member → List Path
mine m = map (λ path. name_of m ∷ path) (part_paths m)

length-mine : (m : Member) → length (mine m) + 1 ≡ length (preorder m)
length-mine m = omega (arith, length-map (part_paths m) (λ path. name_of m ∷ path), length-part_paths m, length-preorder m)

-- where the path stands among those of a member's parts, and without the member's name
own-part : (m : Member) (k : ℕ) (first : List ℕ) (rest : Path) → slice_get (mine m) k ≡ Some (first ∷ rest) → (name_of m ≡ first) × (slice_get (part_paths m) k ≡ Some rest)
own-part m k first rest is =
    let (path, here, same) = mapped-from (λ path. name_of m ∷ path) (part_paths m) k (first ∷ rest) is in
    let tail : path ≡ rest = cc same in
    (cc same, here ∙ ap Some tail)

-- a part of the first member itself
at-top : (m : Member) (ms : Members) (k : ℕ) (first name : List ℕ) → slice_get (mine m) k ≡ Some (first ∷ name ∷ []) → IsPart (member m ms) (suc k) (first ∷ []) name
at-top m ms k first name is =
    let (named, part) = own-part m k first (name ∷ []) is in
    record { at = 0; place = k; variable = m; path_is = ap (λ n. Some (n ∷ [])) named; member_is = top m; part_is = part; count = omega arith }
  where
    top : (m : Member) → slice_get (preorder m ++ preorder_all ms) 0 ≡ Some m
    top (scalar column) = refl
    top (array a) = refl
    top (structure n parts) = refl
    top (grid n a maps) = refl
    top (sequence n columns) = refl

-- a part of one of its parts
further-down : (m : Member) (ms parts : Members) (k : ℕ) (first b : List ℕ) (more : Path) (name : List ℕ) → name_of m ≡ first → part_paths m ≡ paths parts → preorder m ≡ m ∷ preorder_all parts
    → IsPart parts k (b ∷ more) name → IsPart (member m ms) (suc k) (first ∷ b ∷ more) name
further-down m ms parts k first b more name named below listed p = record {
  at = suc p.at;
  place = p.place;
  variable = p.variable;
  path_is =
      in-first (mine m) (paths ms) p.at (first ∷ b ∷ more)
      (ap (λ ps. slice_get (map (λ path. name_of m ∷ path) ps) p.at) below ∙ slice_get-map (λ path. name_of m ∷ path) (paths parts) p.at
      ∙ ap (option_map (λ path. name_of m ∷ path)) p.path_is ∙ ap (λ n. Some (n ∷ b ∷ more)) named);
  member_is = ap (λ l. slice_get (l ++ preorder_all ms) (suc p.at)) listed ∙ in-first (preorder_all parts) (preorder_all ms) p.at p.variable p.member_is;
  part_is = p.part_is;
  count = omega (arith, p.count);
}

-- a part of a later member
later-on : (m : Member) (ms : Members) (k : ℕ) (whole : Path) (name : List ℕ) → length (mine m) ≤ k → IsPart ms (k - length (mine m)) whole name → IsPart (member m ms) (suc k) whole name
later-on m ms k whole name le p =
    let long = length-mine m in
    record {
      at = length (preorder m) + p.at;
      place = p.place;
      variable = p.variable;
      path_is = back_get ((name_of m ∷ []) ∷ mine m) (paths ms) p.at (length (preorder m) + p.at) (omega (arith, long)) ∙ p.path_is;
      member_is = back_get (preorder m) (preorder_all ms) p.at (length (preorder m) + p.at) refl ∙ p.member_is;
      part_is = p.part_is;
      count = omega (arith, long, p.count, le);
    }

mutual
  -- among the parts of a member, further down
  below-part : (m : Member) (ms : Members) (k : ℕ) (first b : List ℕ) (more : Path) (name : List ℕ) → name_of m ≡ first → slice_get (part_paths m) k ≡ Some (b ∷ (more ++ name ∷ []))
      → IsPart (member m ms) (suc k) (first ∷ b ∷ more) name
  below-part (scalar column) ms k first b more name named is = absurd (none-some _ is)
  below-part (array a) ms k first b more name named is = absurd (none-some _ is)
  below-part (structure n parts) ms k first b more name named is = further-down (structure n parts) ms parts k first b more name named refl refl (parent parts k b more name is)
  below-part (grid n a maps) ms k first b more name named is = absurd (no-longer (λ x. x.name) (a ∷ maps) k b more name is)
  below-part (sequence n columns) ms k first b more name named is = absurd (no-longer (λ x. x.name) columns k b more name is)

  pub parent : (ms : Members) (k : ℕ) (first : List ℕ) (rest : Path) (name : List ℕ) → slice_get (paths ms) k ≡ Some (first ∷ (rest ++ name ∷ [])) → IsPart ms k (first ∷ rest) name
  parent no_members k first rest name is = absurd (none-some _ is)
  parent (member m ms) zero first rest name is = absurd (one-name (name_of m) first rest name (same_Some _ _ is))
  parent (member m ms) (suc k) first [] name is =
      ⊎_elim (λ e. at-top m ms k first name e) (λ e. later-on m ms k (first ∷ []) name e.0 (parent ms (k - length (mine m)) first [] name e.1))
      (in_front (mine m) (paths ms) k (first ∷ name ∷ []) is)
  parent (member m ms) (suc k) first (b ∷ more) name is =
      ⊎_elim (λ e. let (named, part) = own-part m k first (b ∷ (more ++ name ∷ [])) e in below-part m ms k first b more name named part)
      (λ e. later-on m ms k (first ∷ b ∷ more) name e.0 (parent ms (k - length (mine m)) first (b ∷ more) name e.1))
      (in_front (mine m) (paths ms) k (first ∷ (b ∷ (more ++ name ∷ []))) is)

-- ---- numbers

-- the place at which a test passes first
tested-at : {K : Type 0} (t : K → Bool) (xs : List K) (i n : ℕ) → position_from t i xs ≡ Some n → (k : ℕ) × (x : K) × (n ≡ i + k) × (slice_get xs k ≡ Some x) × (t x ≡ true)
tested-at t [] i n is = absurd (none-some n is)
tested-at {K} t (x ∷ xs) i n is = by (t x) refl is (λ e. tested-at t xs (i + 1) n e)
  where
    by : (b : Bool) → t x ≡ b → cond b (Some i) (position_from t (i + 1) xs) ≡ Some n
        → (position_from t (i + 1) xs ≡ Some n → (k : ℕ) × (y : K) × (n ≡ i + 1 + k) × (slice_get xs k ≡ Some y) × (t y ≡ true))
        → (k : ℕ) × (y : K) × (n ≡ i + k) × (slice_get (x ∷ xs) k ≡ Some y) × (t y ≡ true)
    by true passes e later = let same : i ≡ n = same_Some i n e in (0, x, omega arith, refl, passes)
    by false passes e later = let (k, y, count, here, also) = later e in (suc k, y, omega (arith, count), here, also)

pub path_at : (d : Dataset) (path : Path) (n : ℕ) → number_of d path ≡ Some n → (1 ≤ n) × (slice_get (paths d.members) (n - 1) ≡ Some path)
path_at d path n is =
    let (k, q, count, here, passes) = tested-at (pointwise bytes_eq path) (paths d.members) 1 n is in
    let same : path ≡ q = (slice_eq-Decides bytes_eq-Decides path q (pointwise bytes_eq path q) refl).0 passes in
    let place : n - 1 ≡ k = omega (arith, count) in
    (omega (arith, count), rw place (here ∙ ap Some (sym same)))

-- no path stands at two places
pub one-place : (ps : List Path) → AllPairs (λ p q. p ≢ q) ps → (i j : ℕ) (p : Path) → slice_get ps i ≡ Some p → slice_get ps j ≡ Some p → i ≡ j
one-place ps differ i j p one other =
    let first = get_or_from_slice_get ps i p [] one in
    let second = get_or_from_slice_get ps j p [] other in
    let long = slice_get_within ps i p one in
    let also = slice_get_within ps j p other in
    by (nat_cmp i j) (ranks i j) (λ lt. differ i j [] lt also (first ∙ sym second)) (λ lt. differ j i [] lt long (second ∙ sym first))
  where
    by : (o : Ordering) → MatchOrdering o (i < j) (i ≡ j) (j < i) → (i < j → ⊥) → (j < i → ⊥) → i ≡ j
    by orders.Less lt not_less not_greater = absurd (not_less lt)
    by orders.Equal same not_less not_greater = same
    by orders.Greater gt not_less not_greater = absurd (not_greater gt)

-- a path begins with a name
pub no-empty : (ms : Members) (k : ℕ) → slice_get (paths ms) k ≡ Some [] → ⊥
no-empty no_members k is = cc is
no-empty (member m ms) zero is = cc is
no-empty (member m ms) (suc k) is =
    ⊎_elim (λ e. let (path, here, same) = mapped-from (λ path. name_of m ∷ path) (part_paths m) k [] e in cc same)
    (λ e. no-empty ms (k - length (mine m)) e.1)
    (in_front (mine m) (paths ms) k [] is)

-- where the whole of a part stands
pub whole_at : (d : Dataset) → IsWellFormed d → (first : List ℕ) (rest : Path) (name : List ℕ) (m n : ℕ) → number_of d (first ∷ rest) ≡ Some m → number_of d (first ∷ (rest ++ name ∷ [])) ≡ Some n
    → (place : ℕ) × (variable : Member) × (slice_get (preorder_all d.members) (m - 1) ≡ Some variable) × (slice_get (part_paths variable) place ≡ Some (name ∷ [])) × (n ≡ m + 1 + place)
whole_at d well first rest name m n whole part =
    let at_m = path_at d (first ∷ rest) m whole in
    let at_n = path_at d (first ∷ (rest ++ name ∷ [])) n part in
    let p = parent d.members (n - 1) first rest name at_n.1 in
    let same : p.at ≡ m - 1 = one-place (paths d.members) (paths_differ d well) p.at (m - 1) (first ∷ rest) p.path_is at_m.1 in
    (p.place, p.variable, subst (λ k. slice_get (preorder_all d.members) k ≡ Some p.variable) same p.member_is, p.part_is, omega (arith, p.count, at_m.0, at_n.0, same))
