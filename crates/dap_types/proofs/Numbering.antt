-- Paths that are added one after the other.
use Rattle.std.proofs.Common.{◌≡◌, ℕ, ◌+◌, ◌<◌, ◌≤◌, Bool, true, false, List, [], ◌∷◌, ◌++◌, length, get_or, drop, map, subst, Option, Some, None, Result, Ok, Err, ap, ◌∙◌, sym, refl, arith, append_assoc, length-append}
use Rattle.std.specs.Prelude.{cond}
use Rattle.std.specs.List.{position_from}
use Rattle.std.specs.Cmp.Lexicographic.{pointwise}
use Rattle.std.specs.Option.{option_or}
use Rattle.std.specs.Str.{bytes_eq}
use Rattle.std.proofs.lemmas.List.{drop_all, length-map, map-append}
use Rattle.plain_lemmas.proofs.Lists.{drop_here}
use Rattle.dap_types.proofs.Views.{members-here, members-end as no_members-left, view-Structure, view-Grid, view-Sequence}
use Rattle.dap_types.specs.Model.{Member, scalar, array, structure, grid, sequence, Members, no_members, member, name_of, count, count_all}
use Rattle.dap_types.specs.Numbered.{Adds, Numbers, under}
use Rattle.dap_types.specs.View.{member_view, members_view}
use Rattle.dap_types.specs.WellFormed.{paths, part_paths}
use Rattle.dap_types.specs.declared.declarations.Decl.{Decl, Structure, Grid, Sequence}
use Rattle.dap_types.specs.declared.declarations.ArrayDecl.{ArrayDecl}
use Rattle.dap_types.specs.declared.declarations.Column.{Column}
use Rattle.dap_types.specs.declared.bytes.Id.{Id}
use Rattle.dap_types.specs.declared.memory.Memory.{Memory}

or_assoc : {X : Type 0} (o p q : Option X) → option_or (option_or o p) q ≡ option_or o (option_or p q)
or_assoc None p q = refl
or_assoc (Some e) p q = refl

pub position_from-append : {X : Type 0} (test : X → Bool) (n : ℕ) (xs ys : List X) → position_from test n (xs ++ ys) ≡ option_or (position_from test n xs) (position_from test (n + length xs) ys)
position_from-append test n [] ys = ap (λ k. position_from test k ys) (omega arith)
position_from-append test n (x ∷ xs) ys =
    let same : n + 1 + length xs ≡ n + length (x ∷ xs) = omega arith in
    ap (λ o. cond (test x) (Some n) o) (position_from-append test (n + 1) xs ys)
    ∙ chosen (test x) (position_from test (n + 1) xs) (position_from test (n + 1 + length xs) ys)
    ∙ ap (λ k. option_or (cond (test x) (Some n) (position_from test (n + 1) xs)) (position_from test k ys)) same
  where
    chosen : (b : Bool) (o p : Option ℕ) → cond b (Some n) (option_or o p) ≡ option_or (cond b (Some n) o) p
    chosen true o p = refl
    chosen false o p = refl

pub adds-append : (old mid new : List (List ℕ) → Option ℕ) (n : ℕ) (ps qs : List (List (List ℕ))) → Adds old mid n ps → Adds mid new (n + length ps) qs → Adds old new n (ps ++ qs)
adds-append old mid new n ps qs first second q =
    second q ∙ ap (λ o. option_or o (position_from (pointwise bytes_eq q) (n + length ps) qs)) (first q)
    ∙ or_assoc (old q) (position_from (pointwise bytes_eq q) n ps) (position_from (pointwise bytes_eq q) (n + length ps) qs)
    ∙ ap (option_or (old q)) (sym (position_from-append (pointwise bytes_eq q) n ps qs))

-- as many paths as members
mutual
  pub length-part_paths : (m : Member) → length (part_paths m) + 1 ≡ count m
  length-part_paths (scalar column) = omega arith
  length-part_paths (array a) = omega arith
  length-part_paths (structure name parts) = ap (λ k. k + 1) (length-paths parts)
  length-part_paths (grid name a maps) = omega (arith, length-map maps (λ b. b.name ∷ []))
  length-part_paths (sequence name columns) = omega (arith, length-map columns (λ c. c.name ∷ []))

  pub length-paths : (ms : Members) → length (paths ms) ≡ count_all ms
  length-paths no_members = refl
  length-paths (member m ms) =
      omega (arith, length-append (map (λ path. name_of m ∷ path) (part_paths m)) (paths ms), length-map (part_paths m) (λ path. name_of m ∷ path), length-part_paths m, length-paths ms)

-- the paths of parts below their whole
below : (whole : List (List ℕ)) (name : List ℕ) (ps : List (List (List ℕ))) → under whole (map (λ path. name ∷ path) ps) ≡ under (whole ++ name ∷ []) ps
below whole name [] = refl
below whole name (p ∷ ps) = ap (λ x. x ∷ under whole (map (λ path. name ∷ path) ps)) (sym (append_assoc whole (name ∷ []) p)) ∙ ap (λ l. ((whole ++ name ∷ []) ++ p) ∷ l) (below whole name ps)

paths-one_more : (whole : List (List ℕ)) (m : Member) (ms : Members)
    → under whole (paths (member m ms)) ≡ ((whole ++ name_of m ∷ []) ∷ []) ++ (under (whole ++ name_of m ∷ []) (part_paths m) ++ under whole (paths ms))
paths-one_more whole m ms =
    ap (λ l. (whole ++ name_of m ∷ []) ∷ l) (map-append (λ p. whole ++ p) (map (λ path. name_of m ∷ path) (part_paths m)) (paths ms)
    ∙ ap (λ l. l ++ under whole (paths ms)) (below whole (name_of m) (part_paths m)))

-- one member and its parts
module _ (decls : List Decl) (i n : ℕ) (whole : List (List ℕ)) (now one two : List (List ℕ) → Option ℕ) (d : Decl) (lt : i < length decls) (is : d ≡ get_or decls i d) where
  pub paths-more : (k : ℕ) (new : List (List ℕ) → Option ℕ) → Adds now one n ((whole ++ name_of (member_view d) ∷ []) ∷ [])
      → k ≡ n + 1 + length (under (whole ++ name_of (member_view d) ∷ []) (part_paths (member_view d)))
      → Adds one two (n + 1) (under (whole ++ name_of (member_view d) ∷ []) (part_paths (member_view d)))
      → Adds two new k (under whole (paths (members_view (drop (i + 1) decls))))
      → Adds now new n (under whole (paths (members_view (drop i decls))))
  paths-more k new own is' parts rest =
      let m = member_view d in
      let ms = members_view (drop (i + 1) decls) in
      let below_it = under (whole ++ name_of m ∷ []) (part_paths m) in
      subst (λ ps. Adds now new n ps) (sym (ap (λ l. under whole (paths l)) (members-here decls i d lt is) ∙ paths-one_more whole m ms))
      (adds-append now one new n ((whole ++ name_of m ∷ []) ∷ []) (below_it ++ under whole (paths ms)) own
      (adds-append one two new (n + 1) below_it (under whole (paths ms)) parts (subst (λ j. Adds two new j (under whole (paths ms))) is' rest)))

  pub numbered-more : (k total : ℕ) → k ≡ n + 1 + length (under (whole ++ name_of (member_view d) ∷ []) (part_paths (member_view d)))
      → n + count_all (members_view (drop i decls)) ≡ total → k + count_all (members_view (drop (i + 1) decls)) ≡ total
  numbered-more k total is' all =
      let same : count_all (members_view (drop i decls)) ≡ count (member_view d) + count_all (members_view (drop (i + 1) decls)) = ap count_all (members-here decls i d lt is) in
      omega (arith, same, length-part_paths (member_view d), length-map (part_paths (member_view d)) (λ p. (whole ++ name_of (member_view d) ∷ []) ++ p))

  pub room : (total : ℕ) → n + count_all (members_view (drop i decls)) ≡ total → n + 1 ≤ total
  room total all =
      let same : count_all (members_view (drop i decls)) ≡ count (member_view d) + count_all (members_view (drop (i + 1) decls)) = ap count_all (members-here decls i d lt is) in
      omega (arith, same, length-part_paths (member_view d))

none_added : (now : List (List ℕ) → Option ℕ) (n : ℕ) → Adds now now n []
none_added now n q = same (now q)
  where
    same : (o : Option ℕ) → o ≡ option_or o None
    same None = refl
    same (Some x) = refl

pub paths-end : (decls : List Decl) (i n : ℕ) (whole : List (List ℕ)) (now : List (List ℕ) → Option ℕ) → length decls ≤ i → Adds now now n (under whole (paths (members_view (drop i decls))))
paths-end decls i n whole now le = subst (λ ms. Adds now now n (under whole (paths ms))) (sym (no_members-left decls i le)) (none_added now n)

pub numbered-end : (decls : List Decl) (i n first : ℕ) (whole : List (List ℕ)) → length decls ≤ i → n + count_all (members_view (drop i decls)) ≡ first + count_all (members_view decls)
    → n ≡ first + length (under whole (paths (members_view decls)))
numbered-end decls i n first whole le all =
    let none : count_all (members_view (drop i decls)) ≡ 0 = ap count_all (no_members-left decls i le) in
    omega (arith, none, length-map (paths (members_view decls)) (λ p. whole ++ p), length-paths (members_view decls))

-- parts that have none
module _ {X : Type 0} (path : X → List (List ℕ)) (xs : List X) (i n : ℕ) (whole : List (List ℕ)) where
  pub walk-adds : (now one new : List (List ℕ) → Option ℕ) (x : X) → i < length xs → x ≡ get_or xs i x → Adds now one n ((whole ++ path x) ∷ [])
      → Adds one new (n + 1) (under whole (map path (drop (i + 1) xs))) → Adds now new n (under whole (map path (drop i xs)))
  walk-adds now one new x lt is own rest =
      subst (λ l. Adds now new n (under whole (map path l))) (sym (drop_here xs i x lt is))
      (adds-append now one new n ((whole ++ path x) ∷ []) (under whole (map path (drop (i + 1) xs))) own rest)

  pub walk-adds-end : (now : List (List ℕ) → Option ℕ) → length xs ≤ i → Adds now now n (under whole (map path (drop i xs)))
  walk-adds-end now le = subst (λ l. Adds now now n (under whole (map path l))) (sym (drop_all i xs le)) (none_added now n)

pub length-under : {X : Type 0} (path : X → List (List ℕ)) (xs : List X) (whole : List (List ℕ)) → length (under whole (map path xs)) ≡ length xs
length-under path xs whole = length-map (map path xs) (λ p. whole ++ p) ∙ length-map xs path

numbers-append : (old one new : List (List ℕ) → Option ℕ) (n : ℕ) (ps qs : List (List (List ℕ))) (r : Result ℕ Memory) → Adds old one n ps → Numbers one new (n + length ps) qs r → Numbers old new n (ps ++ qs) r
numbers-append old one new n ps qs (Ok next) first (is, second) = (omega (arith, is, length-append ps qs), adds-append old one new n ps qs first second)
numbers-append old one new n ps qs (Err e) first second = tt

-- the parts of a member of each kind
module _ (old new : List (List ℕ) → Option ℕ) (first : ℕ) (whole path : List (List ℕ)) (d : Decl) (name : Id) (r : Result ℕ Memory) (below_it : path ≡ whole ++ name ∷ []) where
  pub structure-parts : (parts ps : List Decl) → d ≡ Structure name parts → ps ≡ parts → Numbers old new first (under path (paths (members_view ps))) r
      → Numbers old new first (under (whole ++ name_of (member_view d) ∷ []) (part_paths (member_view d))) r
  structure-parts parts ps is same h =
      subst (λ m. Numbers old new first (under (whole ++ name_of m ∷ []) (part_paths m)) r) (sym (ap member_view is ∙ view-Structure name parts))
      (subst (λ p. Numbers old new first (under p (paths (members_view parts))) r) below_it (subst (λ l. Numbers old new first (under path (paths (members_view l))) r) same h))

  pub sequence-parts : (columns cs : List Column) → d ≡ Sequence name columns → cs ≡ columns → Numbers old new first (under path (map (λ c. c.name ∷ []) cs)) r
      → Numbers old new first (under (whole ++ name_of (member_view d) ∷ []) (part_paths (member_view d))) r
  sequence-parts columns cs is same h =
      subst (λ m. Numbers old new first (under (whole ++ name_of m ∷ []) (part_paths m)) r) (sym (ap member_view is ∙ view-Sequence name columns))
      (subst (λ p. Numbers old new first (under p (map (λ c. c.name ∷ []) columns)) r) below_it (subst (λ l. Numbers old new first (under path (map (λ c. c.name ∷ []) l)) r) same h))

  pub grid-parts : (one : List (List ℕ) → Option ℕ) (a : ArrayDecl) (maps ms : List ArrayDecl) → d ≡ Grid name a maps → ms ≡ maps → Adds old one first ((path ++ a.name ∷ []) ∷ [])
      → Numbers one new (first + 1) (under path (map (λ b. b.name ∷ []) ms)) r → Numbers old new first (under (whole ++ name_of (member_view d) ∷ []) (part_paths (member_view d))) r
  grid-parts one a maps ms is same own h =
      subst (λ m. Numbers old new first (under (whole ++ name_of m ∷ []) (part_paths m)) r) (sym (ap member_view is ∙ view-Grid name a maps))
      (subst (λ p. Numbers old new first (under p (map (λ b. b.name ∷ []) (a ∷ maps))) r) below_it
      (subst (λ l. Numbers old new first (under path (map (λ b. b.name ∷ []) (a ∷ l))) r) same
      (numbers-append old one new first ((path ++ a.name ∷ []) ∷ []) (under path (map (λ b. b.name ∷ []) ms)) r own h)))

-- at the top
pub under-top : (ps : List (List (List ℕ))) → under [] ps ≡ ps
under-top [] = refl
under-top (p ∷ ps) = ap (λ l. p ∷ l) (under-top ps)
