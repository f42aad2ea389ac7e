-- The names of the variables that are stored differ.
use Rattle.std.proofs.Common.{◌≡◌, ℕ, ◌+◌, Bool, true, false, not, ◌&&◌, ◌||◌, cond, List, [], ◌∷◌, ◌++◌, map, filter, find, All, Option, Some, None, is_some, refl, ap, sym, ◌∙◌, append_assoc, if◌then◌else◌}
use Rattle.std.specs.Bool.{⊤}
use Rattle.std.proofs.lemmas.Bool.{true≢false, or_parts, or_from, or_right}
use Rattle.std.proofs.lemmas.List.Folds.{find-append}
use Rattle.std.proofs.lemmas.Slice.Eq.{bytes_eq-Decides}
use Rattle.std.specs.Prelude.{Contains}
use Rattle.std.specs.List.{AllByRecursion, list_any}
use Rattle.std.specs.Option.{option_map_or, option_or}
use Rattle.std.specs.Str.{bytes_eq}
use Rattle.plain_lemmas.proofs.Lists.{same_bytes}
use Rattle.plain_lemmas.proofs.Truths.{both_true}
use Rattle.dap_types.proofs.Rules.{earlier-Decides}
use Rattle.dap_types.specs.Model.{Member, scalar, array, structure, grid, sequence, Members, no_members, member, Dataset, Tree, kids, count, name_of}
use Rattle.dap_types.specs.WellFormed.{IsWellFormed, Place, leaf_places, part_places, places, places_of}
use Rattle.dap_types.specs.declared.declarations.ArrayDecl.{ArrayDecl}
use Rattle.dap_model.proofs.Values.{all_first, all_rest}
use Rattle.netcdf_writer.proofs.DimsBack.{find_any}
use Rattle.netcdf_writer.proofs.Fitting.{first_none}
use Rattle.netcdf_writer.proofs.Planning.{cause_step, maps_one, no_other_kind}
use Rattle.netcdf_writer.specs.Causes.{clashes, first_cause, has_bad_name, has_bad_zero, is_bad_grid, is_other_kind, is_other_than, lacks_name, map_clashes, why}
use Rattle.netcdf_writer.specs.Variables.{Variable, Top, all_maps, array_variables, has_name, is_array, is_new, maps_of, own, stored, stored_from, top_named, tops_of}
use Rattle.netcdf_writer.specs.declared.stored.Why.TheVariants.{Kind, NoName, BadName, BadGrid, Clash, Zero}

-- ---- lists

pub all_of : {X : Type 0} (P : X → Type 0) (xs : List X) → All P xs → AllByRecursion P xs
all_of P [] all = tt
all_of P (x ∷ xs) all = (all_first P x xs all, all_of P xs (all_rest P x xs all))

pub all_left : {X : Type 0} (P : X → Type 0) (xs ys : List X) → AllByRecursion P (xs ++ ys) → AllByRecursion P xs
all_left P [] ys all = tt
all_left P (x ∷ xs) ys all = (all.0, all_left P xs ys all.1)

pub all_right : {X : Type 0} (P : X → Type 0) (xs ys : List X) → AllByRecursion P (xs ++ ys) → AllByRecursion P ys
all_right P [] ys all = all
all_right P (x ∷ xs) ys all = all_right P xs ys all.1

pub all_join : {X : Type 0} (P : X → Type 0) (xs ys : List X) → AllByRecursion P xs → AllByRecursion P ys → AllByRecursion P (xs ++ ys)
all_join P [] ys a b = b
all_join P (x ∷ xs) ys a b = (a.0, all_join P xs ys a.1 b)

pub all_kept : {X : Type 0} (P : X → Type 0) (p : X → Bool) (xs : List X) → AllByRecursion P xs → AllByRecursion P (filter p xs)
all_kept P p [] all = tt
all_kept {X} P p (x ∷ xs) all = chosen (p x) (all_kept P p xs all.1)
  where
    chosen : (b : Bool) → AllByRecursion P (filter p xs) → AllByRecursion P (cond b (x ∷ filter p xs) (filter p xs))
    chosen true rest = (all.0, rest)
    chosen false rest = rest

any_left : {X : Type 0} (p : X → Bool) (xs ys : List X) → list_any p (xs ++ ys) ≡ false → list_any p xs ≡ false
any_left p [] ys e = refl
any_left p (x ∷ xs) ys e = let both = or_parts (p x) (list_any p (xs ++ ys)) e in or_from (p x) (list_any p xs) both.0 (any_left p xs ys both.1)

any_right : {X : Type 0} (p : X → Bool) (xs ys : List X) → list_any p (xs ++ ys) ≡ false → list_any p ys ≡ false
any_right p [] ys e = e
any_right p (x ∷ xs) ys e = any_right p xs ys (or_parts (p x) (list_any p (xs ++ ys)) e).1

any_join : {X : Type 0} (p : X → Bool) (xs ys : List X) → list_any p xs ≡ false → list_any p ys ≡ false → list_any p (xs ++ ys) ≡ false
any_join p [] ys a b = b
any_join p (x ∷ xs) ys a b = let both = or_parts (p x) (list_any p xs) a in or_from (p x) (list_any p (xs ++ ys)) both.0 (any_join p xs ys both.1 b)

other_name : (a b : List ℕ) → (a ≡ b → ⊥) → bytes_eq a b ≡ false
other_name a b apart = chosen (bytes_eq a b) refl
  where
    chosen : (t : Bool) → bytes_eq a b ≡ t → t ≡ false
    chosen false e = refl
    chosen true e = absurd (apart (same_bytes a b e))

turned_name : (a b : List ℕ) → bytes_eq a b ≡ false → bytes_eq b a ≡ false
turned_name a b e = other_name b a (λ is. true≢false (sym ((bytes_eq-Decides a b).1 (sym is)) ∙ e))

-- ---- what is known where there is no cause

abbrev pub NoCauses : List Top → List Top → List Top → Type 0
NoCauses all earlier [] = ⊤
NoCauses all earlier (top ∷ tops) = (why all earlier top ≡ None) × NoCauses all (earlier ++ top ∷ []) tops

pub no_causes : (all earlier : List Top) (n : ℕ) (tops : List Top) → first_cause all earlier n tops ≡ None → NoCauses all earlier tops
no_causes all earlier n [] e = tt
no_causes all earlier n (top ∷ tops) e =
    let both = first_none n (why all earlier top) _ (sym (cause_step all earlier n top tops) ∙ e) in
    (both.0, no_causes all (earlier ++ top ∷ []) (n + count top.0) tops both.1)

pub record HasNone (all earlier : List Top) (top : Top) : Type 0 where
  pub kind : is_other_kind top.0 ≡ false
  pub no_name : lacks_name top.0 ≡ false
  pub bad_name : has_bad_name top.0 ≡ false
  pub bad_grid : is_bad_grid top.0 ≡ false
  pub clash : clashes all earlier top ≡ false
  pub zero : has_bad_zero all earlier top ≡ false

chain : (k n b g c z : Bool) → (if k then Some Kind else if n then Some NoName else if b then Some BadName else if g then Some BadGrid else if c then Some Clash else if z then Some Zero else None) ≡ None
    → (k ≡ false) × (n ≡ false) × (b ≡ false) × (g ≡ false) × (c ≡ false) × (z ≡ false)
chain true n b g c z e = cc e
chain false true b g c z e = cc e
chain false false true g c z e = cc e
chain false false false true c z e = cc e
chain false false false false true z e = cc e
chain false false false false false true e = cc e
chain false false false false false false e = (refl, refl, refl, refl, refl, refl)

pub has_none : (all earlier : List Top) (top : Top) → why all earlier top ≡ None → HasNone all earlier top
unfolding why
has_none all earlier top e =
    let (k, n, b, g, c, z) = chain (is_other_kind top.0) (lacks_name top.0) (has_bad_name top.0) (is_bad_grid top.0) (clashes all earlier top) (has_bad_zero all earlier top) e in
    record { kind = k; no_name = n; bad_name = b; bad_grid = g; clash = c; zero = z }

pub no_map_clash : (all earlier : List Top) (top : Top) → HasNone all earlier top → list_any (map_clashes all earlier) (maps_of top) ≡ false
unfolding clashes
no_map_clash all earlier top none = (or_parts (list_any (map_clashes all earlier) (maps_of top)) _ none.clash).0

-- no top member is of another kind
kinds : (all earlier tops : List Top) → NoCauses all earlier tops → list_any (λ (top : Top). is_other_kind top.0) tops ≡ false
kinds all earlier [] none = refl
kinds all earlier (top ∷ tops) none = or_from (is_other_kind top.0) _ (no_other_kind all earlier top none.0) (kinds all (earlier ++ top ∷ []) tops none.1)

-- ---- names of top members and of the parts of a Grid

abbrev NamedTop : List ℕ → Top → Bool
NamedTop q top = bytes_eq q (name_of top.0)

abbrev IsNew : Place → Type 0
IsNew p = list_any (bytes_eq (name_of p.variable)) p.earlier ≡ false

new_names : (ps : List Place) → AllByRecursion (λ p. ¬ Contains p.earlier (name_of p.variable)) ps → AllByRecursion IsNew ps
new_names [] all = tt
new_names (p ∷ ps) all = (chosen (list_any (bytes_eq (name_of p.variable)) p.earlier) refl, new_names ps all.1)
  where
    chosen : (b : Bool) → list_any (bytes_eq (name_of p.variable)) p.earlier ≡ b → b ≡ false
    chosen false e = refl
    chosen true e = absurd (all.0 ((earlier-Decides (name_of p.variable) p.earlier).0 e))

-- a name that an earlier one has is that of no later one
apart_from : (q name : List ℕ) (earlier : List (List ℕ)) → list_any (bytes_eq q) earlier ≡ true → list_any (bytes_eq name) earlier ≡ false → bytes_eq q name ≡ false
apart_from q name earlier there new = other_name q name (λ is. true≢false (sym there ∙ ap (λ l. list_any (bytes_eq l) earlier) is ∙ new))

later_parts : (q : List ℕ) (depth : ℕ) (earlier : List (List ℕ)) (arrays : List ArrayDecl) → list_any (bytes_eq q) earlier ≡ true → AllByRecursion IsNew (leaf_places depth earlier (map array arrays))
    → list_any (λ b. bytes_eq q b.name) arrays ≡ false
later_parts q depth earlier [] there all = refl
later_parts q depth earlier (a ∷ arrays) there all =
    or_from (bytes_eq q a.name) _ (apart_from q a.name earlier there all.0) (later_parts q depth (a.name ∷ earlier) arrays (or_right (bytes_eq q a.name) (list_any (bytes_eq q) earlier) there) all.1)

later_tops : (q : List ℕ) (depth : ℕ) (earlier : List (List ℕ)) (ms : Members) (ts : List Tree) → list_any (bytes_eq q) earlier ≡ true → AllByRecursion IsNew (places depth earlier ms) → list_any (NamedTop q) (tops_of ms ts) ≡ false
later_tops q depth earlier no_members ts there all = refl
later_tops q depth earlier (member m ms) [] there all = refl
later_tops q depth earlier (member m ms) (t ∷ ts) there all =
    or_from (bytes_eq q (name_of m)) _ (apart_from q (name_of m) earlier there all.0)
    (later_tops q depth (name_of m ∷ earlier) ms ts (or_right (bytes_eq q (name_of m)) (list_any (bytes_eq q) earlier) there) (all_right IsNew (part_places (depth + 1) m) (places depth (name_of m ∷ earlier) ms) all.1))

own_yes : (q : List ℕ) (earlier : List (List ℕ)) → list_any (bytes_eq q) (q ∷ earlier) ≡ true
own_yes q earlier = ap (λ b. b || list_any (bytes_eq q) earlier) ((bytes_eq-Decides q q).1 refl)

-- variables with different names
abbrev pub AreApart : List Variable → Type 0
AreApart [] = ⊤
AreApart (v ∷ vs) = (list_any (has_name v.name) vs ≡ false) × AreApart vs

apart_join : (xs ys : List Variable) → AreApart xs → AreApart ys → AllByRecursion (λ x. list_any (has_name x.name) ys ≡ false) xs → AreApart (xs ++ ys)
apart_join [] ys a b none = b
apart_join (x ∷ xs) ys a b none = (any_join (has_name x.name) xs ys a.0 none.0, apart_join xs ys a.1 b none.1)

any_kept : (q p : Variable → Bool) (xs : List Variable) → list_any q xs ≡ false → list_any q (filter p xs) ≡ false
any_kept q p [] e = refl
any_kept q p (x ∷ xs) e = let both = or_parts (q x) (list_any q xs) e in chosen (p x) both.0 (any_kept q p xs both.1)
  where
    chosen : (b : Bool) → q x ≡ false → list_any q (filter p xs) ≡ false → list_any q (cond b (x ∷ filter p xs) (filter p xs)) ≡ false
    chosen true e rest = or_from (q x) (list_any q (filter p xs)) e rest
    chosen false e rest = rest

apart_kept : (p : Variable → Bool) (xs : List Variable) → AreApart xs → AreApart (filter p xs)
apart_kept p [] apart = tt
apart_kept p (x ∷ xs) apart = chosen (p x) (apart_kept p xs apart.1)
  where
    chosen : (b : Bool) → AreApart (filter p xs) → AreApart (cond b (x ∷ filter p xs) (filter p xs))
    chosen true rest = (any_kept (has_name x.name) p xs apart.0, rest)
    chosen false rest = rest

named_arrays : (q : List ℕ) (arrays : List ArrayDecl) (ts : List Tree) → list_any (λ b. bytes_eq q b.name) arrays ≡ false → list_any (has_name q) (array_variables arrays ts) ≡ false
named_arrays q [] ts e = refl
named_arrays q (a ∷ arrays) [] e = refl
named_arrays q (a ∷ arrays) (t ∷ ts) e = let both = or_parts (bytes_eq q a.name) _ e in or_from (bytes_eq q a.name) _ both.0 (named_arrays q arrays ts both.1)

arrays_apart : (depth : ℕ) (earlier : List (List ℕ)) (arrays : List ArrayDecl) (ts : List Tree) → AllByRecursion IsNew (leaf_places depth earlier (map array arrays)) → AreApart (array_variables arrays ts)
arrays_apart depth earlier [] ts all = tt
arrays_apart depth earlier (a ∷ arrays) [] all = tt
arrays_apart depth earlier (a ∷ arrays) (t ∷ ts) all =
    (named_arrays a.name arrays ts (later_parts a.name depth (a.name ∷ earlier) arrays (own_yes a.name earlier) all.1), arrays_apart depth (a.name ∷ earlier) arrays ts all.1)

-- the maps of a top member
maps_apart : (depth : ℕ) (m : Member) (t : Tree) → AllByRecursion IsNew (part_places depth m) → AreApart (maps_of (m, t))
unfolding maps_of
maps_apart depth (scalar c) t all = tt
maps_apart depth (array a) t all = tt
maps_apart depth (structure name parts) t all = tt
maps_apart depth (sequence name columns) t all = tt
maps_apart depth (grid name a maps) t all = arrays_apart depth (a.name ∷ []) maps _ all.1

unnot_or : (b c : Bool) → (not b || c) ≡ false → b ≡ true
unnot_or true c e = refl
unnot_or false c e = cc e

own_named : (q : List ℕ) (m : Member) (t : Tree) → is_bad_grid m ≡ false → bytes_eq q (name_of m) ≡ false → list_any (has_name q) (own (m, t)) ≡ false
unfolding own is_bad_grid
own_named q (scalar c) t good other = or_from (bytes_eq q c.name) false other refl
own_named q (array a) t good other = or_from (bytes_eq q a.name) false other refl
own_named q (structure name parts) t good other = refl
own_named q (sequence name columns) t good other = refl
own_named q (grid name a maps) t good other =
    named_arrays q (a ∷ []) (kids t) (or_from (bytes_eq q a.name) false (ap (bytes_eq q) (same_bytes a.name name (unnot_or (bytes_eq a.name name) _ good)) ∙ other) refl)

own_apart : (top : Top) → AreApart (own top)
unfolding own
own_apart (scalar c, t) = (refl, tt)
own_apart (array a, t) = (refl, tt)
own_apart (structure name parts, t) = tt
own_apart (sequence name columns, t) = tt
own_apart (grid name a maps, t) = one (kids t)
  where
    one : (ts : List Tree) → AreApart (array_variables (a ∷ []) ts)
    one [] = tt
    one (t ∷ ts) = (refl, tt)

-- the names of what a member is stored as are its own
own_names : (m : Member) (t : Tree) → is_bad_grid m ≡ false → AllByRecursion (λ (v : Variable). v.name ≡ name_of m) (own (m, t))
unfolding own is_bad_grid
own_names (scalar c) t good = (refl, tt)
own_names (array a) t good = (refl, tt)
own_names (structure name parts) t good = tt
own_names (sequence name columns) t good = tt
own_names (grid name a maps) t good = one (kids t)
  where
    one : (ts : List Tree) → AllByRecursion (λ (v : Variable). v.name ≡ name) (array_variables (a ∷ []) ts)
    one [] = tt
    one (t ∷ ts) = (same_bytes a.name name (unnot_or (bytes_eq a.name name) _ good), tt)

-- ---- a map that is stored has the name of no top member

no_top_of : (v : Variable) (o : Option Top) → (not (option_map_or is_array o false)) ≡ true → option_map_or (is_other_than v) o false ≡ false → option_map_or (λ (top : Top). is_other_kind top.0) o false ≡ false → o ≡ None
unfolding is_other_than is_other_kind
no_top_of v None new clash kind = refl
no_top_of v (Some (scalar c, t)) new clash kind = cc clash
no_top_of v (Some (grid name a maps, t)) new clash kind = cc clash
no_top_of v (Some (array a, t)) new clash kind = cc new
no_top_of v (Some (structure name parts, t)) new clash kind = cc kind
no_top_of v (Some (sequence name columns, t)) new clash kind = cc kind

found_kind : (p : Top → Bool) (tops : List Top) → list_any (λ (top : Top). is_other_kind top.0) tops ≡ false → option_map_or (λ (top : Top). is_other_kind top.0) (find p tops) false ≡ false
found_kind p [] e = refl
found_kind p (top ∷ tops) e = let both = or_parts (is_other_kind top.0) _ e in chosen (p top) both.0 (found_kind p tops both.1)
  where
    chosen : (b : Bool) → is_other_kind top.0 ≡ false → option_map_or (λ (top : Top). is_other_kind top.0) (find p tops) false ≡ false → option_map_or (λ (top : Top). is_other_kind top.0) (cond b (Some top) (find p tops)) false ≡ false
    chosen true e rest = e
    chosen false e rest = rest

abbrev HaveKinds : List Top → Type 0
HaveKinds all = list_any (λ (top : Top). is_other_kind top.0) all ≡ false

no_top : (all earlier : List Top) (v : Variable) → HaveKinds all → is_new all earlier v ≡ true → map_clashes all earlier v ≡ false → top_named v.name all ≡ None
unfolding is_new map_clashes
no_top all earlier v have new clash =
    no_top_of v (top_named v.name all) (both_true (not (option_map_or is_array (top_named v.name all) false)) _ new).0 (or_parts (option_map_or (is_other_than v) (top_named v.name all) false) _ clash).0
    (found_kind (λ top. bytes_eq v.name (name_of top.0)) all have)

none_tops : (q : List ℕ) (all : List Top) → top_named q all ≡ None → list_any (NamedTop q) all ≡ false
none_tops q all none = sym (find_any (NamedTop q) all) ∙ ap is_some none

-- ---- a name of a top member is that of no variable that later ones are stored as

kept_unnamed : (q : List ℕ) (all earlier : List Top) (maps : List Variable) → HaveKinds all → is_some (top_named q all) ≡ true → list_any (map_clashes all earlier) maps ≡ false
    → list_any (has_name q) (filter (is_new all earlier) maps) ≡ false
kept_unnamed q all earlier [] have there none = refl
kept_unnamed q all earlier (m ∷ maps) have there none =
    let both = or_parts (map_clashes all earlier m) _ none in
    chosen (is_new all earlier m) refl both.0 (kept_unnamed q all earlier maps have there both.1)
  where
    chosen : (b : Bool) → is_new all earlier m ≡ b → map_clashes all earlier m ≡ false → list_any (has_name q) (filter (is_new all earlier) maps) ≡ false
        → list_any (has_name q) (cond b (m ∷ filter (is_new all earlier) maps) (filter (is_new all earlier) maps)) ≡ false
    chosen false e clash rest = rest
    chosen true e clash rest =
        or_from (bytes_eq q m.name) _ (other_name q m.name (λ is. true≢false (sym there ∙ ap (λ l. is_some (top_named l all)) is ∙ ap is_some (no_top all earlier m have e clash)))) rest

top_unstored : (q : List ℕ) (all earlier tops : List Top) → HaveKinds all → is_some (top_named q all) ≡ true → NoCauses all earlier tops → list_any (NamedTop q) tops ≡ false → list_any (has_name q) (stored_from all earlier tops) ≡ false
unfolding stored_from stored
top_unstored q all earlier [] have there none other = refl
top_unstored q all earlier ((m, t) ∷ tops) have there none other =
    let top : Top = (m, t) in
    let facts = has_none all earlier top none.0 in
    let both = or_parts (bytes_eq q (name_of m)) _ other in
    any_join (has_name q) (filter (is_new all earlier) (maps_of top) ++ own top) (stored_from all (earlier ++ top ∷ []) tops)
    (any_join (has_name q) (filter (is_new all earlier) (maps_of top)) (own top) (kept_unnamed q all earlier (maps_of top) have there (no_map_clash all earlier top facts)) (own_named q m t facts.bad_grid both.0))
    (top_unstored q all (earlier ++ top ∷ []) tops have there none.1 both.1)

-- ---- nor is that of an earlier map

abbrev HasMap : List ℕ → List Top → Type 0
HasMap q earlier = is_some (find (has_name q) (all_maps earlier)) ≡ true

more_maps : (q : List ℕ) (earlier : List Top) (top : Top) → HasMap q earlier → HasMap q (earlier ++ top ∷ [])
more_maps q earlier top there =
    ap (λ l. is_some (find (has_name q) l)) (maps_one earlier top) ∙ ap is_some (find-append (has_name q) (all_maps earlier) (maps_of top)) ∙ either (find (has_name q) (all_maps earlier)) (find (has_name q) (maps_of top)) there
  where
    either : (o p : Option Variable) → is_some o ≡ true → is_some (option_or o p) ≡ true
    either None p e = cc e
    either (Some v) p e = refl

not_new : (q : List ℕ) (all earlier : List Top) (maps : List Variable) → HasMap q earlier → list_any (has_name q) (filter (is_new all earlier) maps) ≡ false
unfolding is_new
not_new q all earlier [] there = refl
not_new q all earlier (m ∷ maps) there = chosen (not (option_map_or is_array (top_named m.name all) false) && not (is_some (find (has_name m.name) (all_maps earlier)))) refl (not_new q all earlier maps there)
  where
    unnot : (b : Bool) → not b ≡ true → b ≡ false
    unnot true e = cc e
    unnot false e = refl

    chosen : (b : Bool) → (not (option_map_or is_array (top_named m.name all) false) && not (is_some (find (has_name m.name) (all_maps earlier)))) ≡ b → list_any (has_name q) (filter (is_new all earlier) maps) ≡ false
        → list_any (has_name q) (cond b (m ∷ filter (is_new all earlier) maps) (filter (is_new all earlier) maps)) ≡ false
    chosen false e rest = rest
    chosen true e rest =
        let free = unnot (is_some (find (has_name m.name) (all_maps earlier))) (both_true (not (option_map_or is_array (top_named m.name all) false)) _ e).1 in
        or_from (bytes_eq q m.name) _ (other_name q m.name (λ is. true≢false (sym there ∙ ap (λ l. is_some (find (has_name l) (all_maps earlier))) is ∙ free))) rest

map_unstored : (q : List ℕ) (all earlier tops : List Top) → HasMap q earlier → NoCauses all earlier tops → list_any (NamedTop q) tops ≡ false → list_any (has_name q) (stored_from all earlier tops) ≡ false
unfolding stored_from stored
map_unstored q all earlier [] there none other = refl
map_unstored q all earlier ((m, t) ∷ tops) there none other =
    let top : Top = (m, t) in
    let facts = has_none all earlier top none.0 in
    let both = or_parts (bytes_eq q (name_of m)) _ other in
    any_join (has_name q) (filter (is_new all earlier) (maps_of top) ++ own top) (stored_from all (earlier ++ top ∷ []) tops)
    (any_join (has_name q) (filter (is_new all earlier) (maps_of top)) (own top) (not_new q all earlier (maps_of top) there) (own_named q m t facts.bad_grid both.0))
    (map_unstored q all (earlier ++ top ∷ []) tops (more_maps q earlier top there) none.1 both.1)

-- ---- all of them

-- every map of a top member is among those up to it
own_maps : (earlier : List Top) (top : Top) (before ms : List Variable) → maps_of top ≡ before ++ ms → AllByRecursion (λ (m : Variable). HasMap m.name (earlier ++ top ∷ [])) ms
own_maps earlier top before [] is = tt
own_maps earlier top before (m ∷ ms) is = (here, own_maps earlier top (before ++ m ∷ []) ms (is ∙ sym (append_assoc before (m ∷ []) ms)))
  where
    yes_right : (p : Variable → Bool) (xs : List Variable) (y : Variable) (ys : List Variable) → p y ≡ true → list_any p (xs ++ y ∷ ys) ≡ true
    yes_right p [] y ys e = ap (λ b. b || list_any p ys) e
    yes_right p (x ∷ xs) y ys e = or_right (p x) (list_any p (xs ++ y ∷ ys)) (yes_right p xs y ys e)

    here : HasMap m.name (earlier ++ top ∷ [])
    here =
        find_any (has_name m.name) (all_maps (earlier ++ top ∷ []))
        ∙ ap (list_any (has_name m.name)) (maps_one earlier top ∙ ap (λ l. all_maps earlier ++ l) is ∙ sym (append_assoc (all_maps earlier) before (m ∷ ms)))
        ∙ yes_right (has_name m.name) (all_maps earlier ++ before) m ms ((bytes_eq-Decides m.name m.name).1 refl)

-- what is known of a map that is stored
record IsKept (all earlier : List Top) (top : Top) (m : Variable) : Type 0 where
  no_top_is : top_named m.name all ≡ None
  known : HasMap m.name (earlier ++ top ∷ [])

kept_maps : (all earlier : List Top) (top : Top) (ms : List Variable) → HaveKinds all → list_any (map_clashes all earlier) ms ≡ false → AllByRecursion (λ (m : Variable). HasMap m.name (earlier ++ top ∷ [])) ms
    → AllByRecursion (IsKept all earlier top) (filter (is_new all earlier) ms)
kept_maps all earlier top [] have none known = tt
kept_maps all earlier top (m ∷ ms) have none known =
    let both = or_parts (map_clashes all earlier m) _ none in
    chosen (is_new all earlier m) refl both.0 (kept_maps all earlier top ms have both.1 known.1)
  where
    chosen : (b : Bool) → is_new all earlier m ≡ b → map_clashes all earlier m ≡ false → AllByRecursion (IsKept all earlier top) (filter (is_new all earlier) ms)
        → AllByRecursion (IsKept all earlier top) (cond b (m ∷ filter (is_new all earlier) ms) (filter (is_new all earlier) ms))
    chosen false e clash rest = rest
    chosen true e clash rest = (record { no_top_is = no_top all earlier m have e clash; known = known.0 }, rest)

map_each : {X : Type 0} (P Q : X → Type 0) (xs : List X) → ((x : X) → P x → Q x) → AllByRecursion P xs → AllByRecursion Q xs
map_each P Q [] f all = tt
map_each P Q (x ∷ xs) f all = (f x all.0, map_each P Q xs f all.1)

stored_apart : (all earlier : List Top) (names : List (List ℕ)) (ms : Members) (ts : List Tree) → HaveKinds all → all ≡ earlier ++ tops_of ms ts → NoCauses all earlier (tops_of ms ts) → AllByRecursion IsNew (places 1 names ms)
    → AreApart (stored_from all earlier (tops_of ms ts))
unfolding stored_from stored
stored_apart all earlier names no_members ts have is none new = tt
stored_apart all earlier names (member m ms) [] have is none new = tt
stored_apart all earlier names (member m ms) (t ∷ ts) have is none new =
    let top : Top = (m, t) in
    let tops = tops_of ms ts in
    let facts = has_none all earlier top none.0 in
    let split : all ≡ (earlier ++ top ∷ []) ++ tops = is ∙ sym (append_assoc earlier (top ∷ []) tops) in
    let rest = stored_from all (earlier ++ top ∷ []) tops in
    let kept = filter (is_new all earlier) (maps_of top) in
    let behind = all_right IsNew (part_places (1 + 1) m) (places 1 (name_of m ∷ names) ms) new.1 in
    let ih = stored_apart all (earlier ++ top ∷ []) (name_of m ∷ names) ms ts have split none.1 behind in
    let known = kept_maps all earlier top (maps_of top) have (no_map_clash all earlier top facts) (own_maps earlier top [] (maps_of top) refl) in
    let of_maps = map_each (IsKept all earlier top) (λ (v : Variable). list_any (has_name v.name) rest ≡ false) kept
    (λ v k. map_unstored v.name all (earlier ++ top ∷ []) tops k.known none.1 (any_right (NamedTop v.name) (earlier ++ top ∷ []) tops (ap (list_any (NamedTop v.name)) (sym split) ∙ none_tops v.name all k.no_top_is))) known in
    let here : is_some (top_named (name_of m) all) ≡ true = find_any (NamedTop (name_of m)) all ∙ ap (list_any (NamedTop (name_of m))) is ∙ there (name_of m) earlier top tops ((bytes_eq-Decides (name_of m) (name_of m)).1 refl) in
    let own_free = top_unstored (name_of m) all (earlier ++ top ∷ []) tops have here none.1 (later_tops (name_of m) 1 (name_of m ∷ names) ms ts (own_yes (name_of m) names) behind) in
    let of_own = map_each (λ (v : Variable). v.name ≡ name_of m) (λ (v : Variable). list_any (has_name v.name) rest ≡ false) (own top) (λ v e. ap (λ n. list_any (has_name n) rest) e ∙ own_free) (own_names m t facts.bad_grid) in
    let between = map_each (IsKept all earlier top) (λ (v : Variable). list_any (has_name v.name) (own top) ≡ false) kept
    (λ v k. own_named v.name m t facts.bad_grid (unnamed v.name (name_of m) earlier top tops refl (ap (list_any (NamedTop v.name)) (sym is) ∙ none_tops v.name all k.no_top_is))) known in
    apart_join (kept ++ own top) rest
    (apart_join kept (own top) (apart_kept (is_new all earlier) (maps_of top) (maps_apart (1 + 1) m t (all_left IsNew (part_places (1 + 1) m) (places 1 (name_of m ∷ names) ms) new.1))) (own_apart top) between) ih
    (all_join (λ (v : Variable). list_any (has_name v.name) rest ≡ false) kept (own top) of_maps of_own)
  where
    there : (q : List ℕ) (earlier : List Top) (top : Top) (tops : List Top) → NamedTop q top ≡ true → list_any (NamedTop q) (earlier ++ top ∷ tops) ≡ true
    there q [] top tops e = ap (λ b. b || list_any (NamedTop q) tops) e
    there q (x ∷ earlier) top tops e = or_right (NamedTop q x) _ (there q earlier top tops e)

    unnamed : (q name : List ℕ) (earlier : List Top) (top : Top) (tops : List Top) → name_of top.0 ≡ name → list_any (NamedTop q) (earlier ++ top ∷ tops) ≡ false → bytes_eq q name ≡ false
    unnamed q name earlier top tops is e = ap (bytes_eq q) (sym is) ∙ (or_parts (NamedTop q top) _ (any_right (NamedTop q) earlier (top ∷ tops) e)).0

-- the names of the variables of a dataset differ
pub variables_apart : (d : Dataset) (ts : List Tree) → IsWellFormed d → first_cause (tops_of d.members ts) [] 1 (tops_of d.members ts) ≡ None → AreApart (stored_from (tops_of d.members ts) [] (tops_of d.members ts))
variables_apart d ts well none =
    let all = tops_of d.members ts in
    let no = no_causes all [] 1 all none in
    stored_apart all [] [] d.members ts (kinds all [] all no) refl no (new_names (places_of d) (all_of (λ p. ¬ Contains p.earlier (name_of p.variable)) (places_of d) well.names_differ))

-- ---- each is new behind the earlier ones

abbrev pub AreNew : List Variable → List Variable → Type 0
AreNew earlier [] = ⊤
AreNew earlier (v ∷ vs) = (list_any (has_name v.name) earlier ≡ false) × AreNew (earlier ++ v ∷ []) vs

new_here : (v : Variable) (vs earlier : List Variable) → AllByRecursion (λ (e : Variable). list_any (has_name e.name) (v ∷ vs) ≡ false) earlier → list_any (has_name v.name) earlier ≡ false
new_here v vs [] all = refl
new_here v vs (e ∷ earlier) all = or_from (bytes_eq v.name e.name) _ (turned_name e.name v.name (or_parts (bytes_eq e.name v.name) _ all.0).0) (new_here v vs earlier all.1)

pub are_new : (earlier vs : List Variable) → AreApart vs → AllByRecursion (λ (e : Variable). list_any (has_name e.name) vs ≡ false) earlier → AreNew earlier vs
are_new earlier [] apart none = tt
are_new earlier (v ∷ vs) apart none = (
  new_here v vs earlier none,
  are_new (earlier ++ v ∷ []) vs apart.1 (all_join (λ (e : Variable). list_any (has_name e.name) vs ≡ false) earlier (v ∷ [])
      (map_each (λ (e : Variable). list_any (has_name e.name) (v ∷ vs) ≡ false) (λ (e : Variable). list_any (has_name e.name) vs ≡ false) earlier (λ e f. (or_parts (bytes_eq e.name v.name) _ f).1) none) (apart.0, tt)),
)
