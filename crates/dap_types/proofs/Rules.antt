-- A dataset is well formed exactly where it has no fault.
use Rattle.std.proofs.Common.{◌≡◌, ℕ, ◌+◌, ◌≤◌, ◌<◌, List, [], ◌∷◌, length, All, Contains, Decides, Bool, true, false, ◌&&◌, not, nat_lt, nat_le, if◌then◌else◌, Option, Some, None, refl, sym, ap, ◌∙◌, arith}
use Rattle.std.proofs.lemmas.Bool.{false≢true}
use Rattle.std.proofs.lemmas.Bool.Decides.{nat_tests, Decides-and, Decides-ltb, Decides-like, Decides-by_and, Decides-by_or, not_from_Decides}
use Rattle.std.proofs.lemmas.List.Elements.{All-nil, All-cons, All-head, All-tail, Decides-contains}
use Rattle.std.proofs.lemmas.Slice.Eq.{bytes_eq-Decides}
use Rattle.std.specs.Cmp.Lexicographic.{pointwise, bytes_decides}
use Rattle.std.specs.List.{AllZip, list_all, list_any}
use Rattle.std.specs.Option.{option_or}
use Rattle.std.specs.Str.{bytes_eq}
use Rattle.dap_types.specs.Model.{Member, scalar, array, structure, grid, sequence, Dataset, name_of, sizes}
use Rattle.dap_types.specs.WellFormed.{Place, places_of, IsSized, HasMaps, is_sized, has_sizes, has_maps, fault_at, first_fault, fault, IsWellFormed}
use Rattle.dap_types.specs.declared.declarations.ArrayDecl.{ArrayDecl}
use Rattle.dap_types.specs.declared.unfit.Unfit.{Unfit}
use Rattle.dap_types.specs.declared.unfit.Unfit.TheVariants.{Repeated, TooDeep, TooMany, BadGrid, BadSize}

le-Decides : (a b : ℕ) → Decides (nat_le a b) (a ≤ b)
le-Decides a b = (λ e. grind (arith, nat_tests), λ e. grind (arith, nat_tests))

-- the name is one of those before it
pub earlier-Decides : (name : List ℕ) (earlier : List (List ℕ)) → Decides (list_any (bytes_eq name) earlier) (Contains earlier name)
earlier-Decides name earlier =
    Decides-contains earlier name (list_any (bytes_eq name) earlier)
    (Decides-by_or (bytes_eq name) (λ y. y ≡ name) (list_any (bytes_eq name)) (λ y. Decides-like (bytes_eq name y) sym sym (bytes_eq-Decides name y)) refl (λ _ _. refl) earlier)

sized-Decides : (a : ArrayDecl) → Decides (is_sized a) ((1 ≤ length a.dims) × (length a.dims ≤ 32) × All (λ n. n ≤ 2147483647) (sizes a))
sized-Decides a =
    let each = Decides-by_and (λ n. nat_le n 2147483647) (λ n. n ≤ 2147483647) (list_all (λ n. nat_le n 2147483647)) (λ n. le-Decides n 2147483647) refl (λ _ _. refl) (sizes a) in
    let few = Decides-and (nat_le 1 (length a.dims)) (nat_le (length a.dims) 32) (le-Decides 1 (length a.dims)) (le-Decides (length a.dims) 32) in
    let both = Decides-and (nat_le 1 (length a.dims) && nat_le (length a.dims) 32) (list_all (λ n. nat_le n 2147483647) (sizes a)) few each in
    (λ e. let h = both.0 e in (h.0.0, h.0.1, h.1), λ h. both.1 ((h.0, h.1), h.2))

sizes-Decide : (m : Member) → Decides (has_sizes m) (IsSized m)
sizes-Decide (scalar column) = (λ _. tt, λ _. refl)
sizes-Decide (array a) = sized-Decides a
sizes-Decide (structure name parts) = (λ _. tt, λ _. refl)
sizes-Decide (grid name a maps) = (λ _. tt, λ _. refl)
sizes-Decide (sequence name columns) = (λ _. tt, λ _. refl)

-- two lists, pair by pair
zip-Decides : {A B : Type 0} (test : A → B → Bool) (R : A → B → Type 0) → ((a : A) (b : B) → Decides (test a b) (R a b)) → (xs : List A) (ys : List B) → Decides (pointwise test xs ys) (AllZip R xs ys)
zip-Decides test R each [] [] = (λ _. tt, λ _. refl)
zip-Decides test R each [] (y ∷ ys) = (λ e. absurd (false≢true e), λ h. absurd h)
zip-Decides test R each (x ∷ xs) [] = (λ e. absurd (false≢true e), λ h. absurd h)
zip-Decides test R each (x ∷ xs) (y ∷ ys) = Decides-and (test x y) (pointwise test xs ys) (each x y) (zip-Decides test R each xs ys)

maps-Decide : (m : Member) → Decides (has_maps m) (HasMaps m)
maps-Decide (scalar column) = (λ _. tt, λ _. refl)
maps-Decide (array a) = (λ _. tt, λ _. refl)
maps-Decide (structure name parts) = (λ _. tt, λ _. refl)
maps-Decide (grid name a maps) = zip-Decides _ (λ m n. sizes m ≡ n ∷ []) (λ m n. bytes_decides (sizes m) (n ∷ [])) maps (sizes a)
maps-Decide (sequence name columns) = (λ _. tt, λ _. refl)

-- every rule holds of a member
pub record Obeys (p : Place) : Type 0 where
  pub shallow : p.depth ≤ 16
  pub name_differs : ¬ Contains p.earlier (name_of p.variable)
  pub sized : IsSized p.variable
  pub mapped : HasMaps p.variable

-- the four tests of a member in turn, and their faults
abbrev judged : Bool → Bool → Bool → Bool → Unfit → Unfit → Unfit → Unfit → Option Unfit
judged deep repeated sized mapped e f g h =
    if deep then Some e else if repeated then Some f else if not sized then Some g else if not mapped then Some h else None

passed : (deep repeated sized mapped : Bool) (e f g h : Unfit) → judged deep repeated sized mapped e f g h ≡ None → (deep ≡ false) × (repeated ≡ false) × (sized ≡ true) × (mapped ≡ true)
passed true repeated sized mapped e f g h none = cc
passed false true sized mapped e f g h none = cc
passed false false false mapped e f g h none = cc
passed false false true false e f g h none = cc
passed false false true true e f g h none = (refl, refl, refl, refl)

passes : (deep repeated sized mapped : Bool) (e f g h : Unfit) → deep ≡ false → repeated ≡ false → sized ≡ true → mapped ≡ true → judged deep repeated sized mapped e f g h ≡ None
passes deep repeated sized mapped e f g h a b c d = rw (a, b, c, d)

deep-Decides : (p : Place) → Decides (nat_lt 16 p.depth) (16 < p.depth)
deep-Decides p = Decides-ltb 16 p.depth

pub obeys_without_fault : (n : ℕ) (p : Place) → fault_at n p ≡ None → Obeys p
obeys_without_fault n p none =
    let all = passed (nat_lt 16 p.depth) (list_any (bytes_eq (name_of p.variable)) p.earlier) (has_sizes p.variable) (has_maps p.variable) (TooDeep n) (Repeated n) (BadSize n) (BadGrid n) none in
    let deep : nat_lt 16 p.depth ≡ false = all.0 in record {
      shallow = grind (arith, nat_tests);
      name_differs = not_from_Decides (list_any (bytes_eq (name_of p.variable)) p.earlier) (earlier-Decides (name_of p.variable) p.earlier) all.1;
      sized = (sizes-Decide p.variable).0 all.2;
      mapped = (maps-Decide p.variable).0 all.3;
    }

pub false_from_not : {P : Type 0} (b : Bool) → Decides b P → ¬ P → b ≡ false
false_from_not true decides n = absurd (n (decides.0 refl))
false_from_not false decides n = refl

pub no_fault_where_obeyed : (n : ℕ) (p : Place) → Obeys p → fault_at n p ≡ None
no_fault_where_obeyed n p obeys =
    passes (nat_lt 16 p.depth) (list_any (bytes_eq (name_of p.variable)) p.earlier) (has_sizes p.variable) (has_maps p.variable) (TooDeep n) (Repeated n) (BadSize n) (BadGrid n)
    (false_from_not (nat_lt 16 p.depth) (deep-Decides p) (λ deep. omega (arith, obeys.shallow)))
    (false_from_not (list_any (bytes_eq (name_of p.variable)) p.earlier) (earlier-Decides (name_of p.variable) p.earlier) obeys.name_differs)
    ((sizes-Decide p.variable).1 obeys.sized) ((maps-Decide p.variable).1 obeys.mapped)

none_first : (o p : Option Unfit) → option_or o p ≡ None → (o ≡ None) × (p ≡ None)
none_first None p none = (refl, none)
none_first (Some e) p none = cc

all_obey : (n : ℕ) (ps : List Place) → first_fault n ps ≡ None → All Obeys ps
all_obey n [] none = All-nil Obeys
all_obey n (p ∷ ps) none =
    let both = none_first (fault_at n p) (first_fault (n + 1) ps) none in All-cons Obeys p ps (obeys_without_fault n p both.0) (all_obey (n + 1) ps both.1)

none_where_all_obey : (n : ℕ) (ps : List Place) → All Obeys ps → first_fault n ps ≡ None
none_where_all_obey n [] all = refl
none_where_all_obey n (p ∷ ps) all =
    ap (λ o. option_or o (first_fault (n + 1) ps)) (no_fault_where_obeyed n p (All-head Obeys p ps all)) ∙ none_where_all_obey (n + 1) ps (All-tail Obeys p ps all)

-- the test on the number of members comes first
abbrev first_of : Bool → Option Unfit → Option Unfit
first_of many o = if many then Some TooMany else o

few_first : (many : Bool) (o : Option Unfit) → first_of many o ≡ None → (many ≡ false) × (o ≡ None)
few_first true o none = cc
few_first false o none = (refl, none)

pub well_formed_where_all_obey : (d : Dataset) → length (places_of d) ≤ 1000000 → All Obeys (places_of d) → IsWellFormed d
well_formed_where_all_obey d few obey = record {
  few = few;
  shallow = λ k p lt. (obey k p lt).shallow;
  names_differ = λ k p lt. (obey k p lt).name_differs;
  sized = λ k p lt. (obey k p lt).sized;
  mapped = λ k p lt. (obey k p lt).mapped;
}

pub all_obey_where_well_formed : (d : Dataset) → IsWellFormed d → All Obeys (places_of d)
all_obey_where_well_formed d is k p lt = record { shallow = is.shallow k p lt; name_differs = is.names_differ k p lt; sized = is.sized k p lt; mapped = is.mapped k p lt }

pub well_formed_without_fault : (d : Dataset) → fault d ≡ None → IsWellFormed d
unfolding fault
well_formed_without_fault d none =
    let both = few_first (nat_lt 1000000 (length (places_of d))) (first_fault 1 (places_of d)) none in
    let many : nat_lt 1000000 (length (places_of d)) ≡ false = both.0 in well_formed_where_all_obey d (grind (arith, nat_tests)) (all_obey 1 (places_of d) both.1)

pub no_fault_where_well_formed : (d : Dataset) → IsWellFormed d → fault d ≡ None
unfolding fault
no_fault_where_well_formed d is =
    let few : nat_lt 1000000 (length (places_of d)) ≡ false =
    false_from_not (nat_lt 1000000 (length (places_of d))) (Decides-ltb 1000000 (length (places_of d))) (λ many. omega (arith, is.few)) in
    ap (λ many. first_of many (first_fault 1 (places_of d))) few ∙ none_where_all_obey 1 (places_of d) (all_obey_where_well_formed d is)

pub ruleset fault_laws = (well_formed_without_fault, no_fault_where_well_formed)
