-- With new names nothing can be wrong with a dataset but that names repeat.
use Rattle.std.proofs.Common.{◌≡◌, ℕ, suc, ◌+◌, Bool, true, false, cond, List, [], ◌∷◌, ◌++◌, length, map, Option, Some, None, nat_lt, nat_eq, inl, inr, refl, sym, ap, ◌∙◌, subst}
use Rattle.std.specs.Prelude.{◌&&◌, not, option_map, ◌⊎◌, ⊤}
use Rattle.dap_types.proofs.Rules.{no_fault_where_well_formed}
use Rattle.std.specs.Cmp.Lexicographic.{pointwise}
use Rattle.std.specs.List.{AllZip, list_any, position_from}
use Rattle.std.specs.Option.{option_or}
use Rattle.std.specs.Str.{bytes_eq}
use Rattle.dap_types.specs.Limits.{most_depth, most_members}
use Rattle.dap_types.specs.Model.{Member, scalar, array, structure, grid, sequence, Members, no_members, member, Dataset, name_of, sizes}
use Rattle.dap_types.specs.WellFormed.{Place, places, part_places, leaf_places, places_of, IsWellFormed, has_sizes, has_maps, fault, fault_at, first_fault}
use Rattle.dap_types.specs.declared.declarations.ArrayDecl.{ArrayDecl}
use Rattle.dap_types.specs.declared.declarations.Column.{Column}
use Rattle.dap_types.specs.declared.unfit.Unfit.{Unfit}
use Rattle.dap_types.specs.declared.unfit.Unfit.TheVariants.{Repeated, TooDeep, TooMany, BadGrid, BadSize, Memory}
use Rattle.saved_source.specs.Responses.{renamed, renamed_all, renamed_array, renamed_column, saved_dataset, first_repeated}

-- all but the name
pub record Alike (p q : Place) : Type 0 where
  pub depth : p.depth ≡ q.depth
  pub sized : has_sizes p.variable ≡ has_sizes q.variable
  pub mapped : has_maps p.variable ≡ has_maps q.variable

abbrev AllAlike : List Place → List Place → Type 0
AllAlike ps qs = AllZip Alike ps qs

alike_append : (ps qs rs ss : List Place) → AllAlike ps qs → AllAlike rs ss → AllAlike (ps ++ rs) (qs ++ ss)
alike_append [] [] rs ss one two = two
alike_append [] (q ∷ qs) rs ss one two = absurd one
alike_append (p ∷ ps) [] rs ss one two = absurd one
alike_append (p ∷ ps) (q ∷ qs) rs ss one two = (one.0, alike_append ps qs rs ss one.1 two)

array_places : (depth : ℕ) (e f : List (List ℕ)) (arrays : List ArrayDecl) → AllAlike (leaf_places depth e (map array arrays)) (leaf_places depth f (map array (map renamed_array arrays)))
array_places depth e f [] = tt
array_places depth e f (a ∷ arrays) = (record { depth = refl; sized = refl; mapped = refl }, array_places depth (a.name ∷ e) ((renamed_array a).name ∷ f) arrays)

column_places : (depth : ℕ) (e f : List (List ℕ)) (columns : List Column) → AllAlike (leaf_places depth e (map scalar columns)) (leaf_places depth f (map scalar (map renamed_column columns)))
column_places depth e f [] = tt
column_places depth e f (c ∷ columns) = (record { depth = refl; sized = refl; mapped = refl }, column_places depth (c.name ∷ e) ((renamed_column c).name ∷ f) columns)

same_maps : (maps : List ArrayDecl) (ns : List ℕ) → pointwise (λ m n. pointwise nat_eq (sizes m) (n ∷ [])) maps ns ≡ pointwise (λ m n. pointwise nat_eq (sizes m) (n ∷ [])) (map renamed_array maps) ns
same_maps [] [] = refl
same_maps [] (n ∷ ns) = refl
same_maps (m ∷ maps) [] = refl
same_maps (m ∷ maps) (n ∷ ns) = ap (λ b. pointwise nat_eq (sizes m) (n ∷ []) && b) (same_maps maps ns)

same_sized : (m : Member) → has_sizes m ≡ has_sizes (renamed m)
same_sized (scalar c) = refl
same_sized (array a) = refl
same_sized (structure name parts) = refl
same_sized (grid name a maps) = refl
same_sized (sequence name columns) = refl

same_mapped : (m : Member) → has_maps m ≡ has_maps (renamed m)
same_mapped (scalar c) = refl
same_mapped (array a) = refl
same_mapped (structure name parts) = refl
same_mapped (grid name a maps) = same_maps maps (sizes a)
same_mapped (sequence name columns) = refl

mutual
  part_alike : (depth : ℕ) (m : Member) → AllAlike (part_places depth m) (part_places depth (renamed m))
  part_alike depth (scalar c) = tt
  part_alike depth (array a) = tt
  part_alike depth (structure name parts) = all_alike depth [] [] parts
  part_alike depth (grid name a maps) = array_places depth [] [] (a ∷ maps)
  part_alike depth (sequence name columns) = column_places depth [] [] columns

  all_alike : (depth : ℕ) (e f : List (List ℕ)) (ms : Members) → AllAlike (places depth e ms) (places depth f (renamed_all ms))
  all_alike depth e f no_members = tt
  all_alike depth e f (member m ms) = (
    record { depth = refl; sized = same_sized m; mapped = same_mapped m },
    alike_append (part_places (depth + 1) m) (part_places (depth + 1) (renamed m)) (places depth (name_of m ∷ e) ms) (places depth (name_of (renamed m) ∷ f) (renamed_all ms)) (part_alike (depth + 1) m)
        (all_alike depth (name_of m ∷ e) (name_of (renamed m) ∷ f) ms),
  )

abbrev repeats : Place → Bool
repeats p = list_any (bytes_eq (name_of p.variable)) p.earlier

-- a member without a fault has at most a repeated name under another name
record NoFault (p : Place) : Type 0 where
  pub shallow : nat_lt most_depth p.depth ≡ false
  pub sized : has_sizes p.variable ≡ true
  pub mapped : has_maps p.variable ≡ true

no_fault : (n : ℕ) (p : Place) → fault_at n p ≡ None → NoFault p
no_fault n p is = go (nat_lt most_depth p.depth) (repeats p) (has_sizes p.variable) (has_maps p.variable) refl refl refl is
  where
    go : (a b c d : Bool) → nat_lt most_depth p.depth ≡ a → has_sizes p.variable ≡ c → has_maps p.variable ≡ d
        → cond a (Some (TooDeep n)) (cond b (Some (Repeated n)) (cond (not c) (Some (BadSize n)) (cond (not d) (Some (BadGrid n)) None))) ≡ None → NoFault p
    go true b c d x y z e = absurd (cc)
    go false true c d x y z e = absurd (cc)
    go false false false d x y z e = absurd (cc)
    go false false true false x y z e = absurd (cc)
    go false false true true x y z e = record { shallow = x; sized = y; mapped = z }

fault_of_alike : (n : ℕ) (p q : Place) → fault_at n p ≡ None → Alike p q → fault_at n q ≡ cond (repeats q) (Some (Repeated n)) None
fault_of_alike n p q none like =
    let f = no_fault n p none in
    let x : nat_lt most_depth q.depth ≡ false = ap (nat_lt most_depth) (sym like.depth) ∙ f.shallow in
    let y : has_sizes q.variable ≡ true = sym like.sized ∙ f.sized in
    let z : has_maps q.variable ≡ true = sym like.mapped ∙ f.mapped in
    rw (x, y, z) refl

first_none : (n : ℕ) (p : Place) (ps : List Place) → first_fault n (p ∷ ps) ≡ None → (fault_at n p ≡ None) × (first_fault (n + 1) ps ≡ None)
first_none n p ps is = go (fault_at n p) is
  where
    go : (o : Option Unfit) → option_or o (first_fault (n + 1) ps) ≡ None → (o ≡ None) × (first_fault (n + 1) ps ≡ None)
    go None e = (refl, e)
    go (Some u) e = absurd (cc)

first_alike : (n : ℕ) (ps qs : List Place) → first_fault n ps ≡ None → AllAlike ps qs → first_fault n qs ≡ option_map Repeated (position_from repeats n qs)
first_alike n [] [] none like = refl
first_alike n [] (q ∷ qs) none like = absurd like
first_alike n (p ∷ ps) [] none like = absurd like
first_alike n (p ∷ ps) (q ∷ qs) none like =
    let both = first_none n p ps none in
    ap (λ o. option_or o (first_fault (n + 1) qs)) (fault_of_alike n p q both.0 like.0) ∙ go (repeats q) (first_alike (n + 1) ps qs both.1 like.1)
  where
    go : (b : Bool) → first_fault (n + 1) qs ≡ option_map Repeated (position_from repeats (n + 1) qs)
        → option_or (cond b (Some (Repeated n)) None) (first_fault (n + 1) qs) ≡ option_map Repeated (cond b (Some n) (position_from repeats (n + 1) qs))
    go true more = refl
    go false more = more

alike_long : (ps qs : List Place) → AllAlike ps qs → length ps ≡ length qs
alike_long [] [] like = refl
alike_long [] (q ∷ qs) like = absurd like
alike_long (p ∷ ps) [] like = absurd like
alike_long (p ∷ ps) (q ∷ qs) like = ap suc (alike_long ps qs like.1)

-- the fault of the dataset under new names
pub only_repeats : (name : List ℕ) (d : Dataset) → fault d ≡ None → fault (saved_dataset name d) ≡ option_map Repeated (first_repeated (saved_dataset name d))
unfolding fault first_repeated
only_repeats name d none = go (nat_lt most_members (length (places_of d))) refl none
  where
    like : AllAlike (places_of d) (places_of (saved_dataset name d))
    like = all_alike 1 [] [] d.members

    go : (b : Bool) → nat_lt most_members (length (places_of d)) ≡ b → cond b (Some TooMany) (first_fault 1 (places_of d)) ≡ None
        → cond (nat_lt most_members (length (places_of (saved_dataset name d)))) (Some TooMany) (first_fault 1 (places_of (saved_dataset name d))) ≡ option_map Repeated (position_from repeats 1 (places_of (saved_dataset name d)))
    go true few e = absurd (cc)
    go false few e =
        let same : nat_lt most_members (length (places_of (saved_dataset name d))) ≡ false = ap (nat_lt most_members) (sym (alike_long _ _ like)) ∙ few in
        ap (λ b. cond b (Some TooMany) (first_fault 1 (places_of (saved_dataset name d)))) same ∙ first_alike 1 (places_of d) (places_of (saved_dataset name d)) e like

-- ---- what the code is told
abbrev pub IsOther : Unfit → Type 0
IsOther Memory = ⊥
IsOther (Repeated n) = ⊥
IsOther e = ⊤

pub no_other : (f : Option Unfit) (r : Option ℕ) (e : Unfit) → (e ≡ Memory) ⊎ (f ≡ Some e) → f ≡ option_map Repeated r → IsOther e → ⊥
no_other f r e (inl is) tells other = subst IsOther is other
no_other f None e (inr is) tells other = absurd (cc)
no_other f (Some n) e (inr is) tells other = let same : Some (Repeated n) ≡ Some e = sym tells ∙ is in let one : Repeated n ≡ e = cc in subst IsOther (sym one) other

pub told_first : (f : Option Unfit) (r : Option ℕ) (e : Unfit) (n : ℕ) → (e ≡ Memory) ⊎ (f ≡ Some e) → f ≡ option_map Repeated r → e ≡ Repeated n → r ≡ Some n
told_first f r e n (inl is) tells at = absurd (cc)
told_first f None e n (inr is) tells at = absurd (cc)
told_first f (Some m) e n (inr is) tells at = let same : Some (Repeated m) ≡ Some (Repeated n) = sym tells ∙ is ∙ ap Some at in let one : m ≡ n = cc in ap Some one

pub none_repeats : (f : Option Unfit) (r : Option ℕ) → f ≡ option_map Repeated r → f ≡ None → r ≡ None
none_repeats f None tells is = refl
none_repeats f (Some n) tells is = absurd (cc)

-- of the dataset under new names, where the old one is well formed
pub fault_is : (name : List ℕ) (d e : Dataset) → IsWellFormed d → e ≡ saved_dataset name d → fault e ≡ option_map Repeated (first_repeated (saved_dataset name d))
fault_is name d e is same = ap fault same ∙ only_repeats name d (no_fault_where_well_formed d is)

pub none_where_well_formed : (name : List ℕ) (d e : Dataset) → IsWellFormed d → e ≡ saved_dataset name d → IsWellFormed e → first_repeated (saved_dataset name d) ≡ None
none_where_well_formed name d e is same well = none_repeats (fault e) (first_repeated (saved_dataset name d)) (fault_is name d e is same) (no_fault_where_well_formed e well)
