-- The member with a number is the one at its place in preorder.
use Rattle.std.proofs.Common.{◌≡◌, ℕ, zero, suc, ◌+◌, ◌-◌, ◌<◌, ◌≤◌, Bool, true, false, cond, eqb, List, [], ◌∷◌, ◌++◌, length, map, slice_get, Option, Some, None, option_map, refl, ap, ◌∙◌, sym, arith, length-append}
use Rattle.std.specs.List.{find, enumerate_from, position_from}
use Rattle.std.proofs.lemmas.List.{length-map, map-append}
use Rattle.std.proofs.lemmas.Option.{slice_get-map, none-some, same_Some}
use Rattle.std.proofs.lemmas.Bool.{eq-eqb}
use Rattle.std.proofs.lemmas.Bool.Decides.{nat_tests}
use Rattle.dap_types.proofs.Faults.{length-places}
use Rattle.dap_types.proofs.Numbering.{length-paths}
use Rattle.dap_types.specs.Model.{Member, scalar, array, structure, grid, sequence, Members, no_members, member, Dataset, name_of, count, count_all}
use Rattle.dap_types.specs.WellFormed.{Place, places, part_places, leaf_places, places_of, paths, member_at, number_of, IsWellFormed}
use Rattle.dap_types.specs.Preorder.{preorder, preorder_all}

leaf_variables : (depth : ℕ) (earlier : List (List ℕ)) (ms : List Member) → map (λ (p : Place). p.variable) (leaf_places depth earlier ms) ≡ ms
leaf_variables depth earlier [] = refl
leaf_variables depth earlier (m ∷ ms) = ap (λ l. m ∷ l) (leaf_variables depth (name_of m ∷ earlier) ms)

mutual
  preorder-parts : (m : Member) (depth : ℕ) → m ∷ map (λ (p : Place). p.variable) (part_places depth m) ≡ preorder m
  preorder-parts (scalar column) depth = refl
  preorder-parts (array a) depth = refl
  preorder-parts (structure name parts) depth = ap (λ l. structure name parts ∷ l) (preorder-places parts depth [])
  preorder-parts (grid name a maps) depth = ap (λ l. grid name a maps ∷ l) (leaf_variables depth [] (map array (a ∷ maps)))
  preorder-parts (sequence name columns) depth = ap (λ l. sequence name columns ∷ l) (leaf_variables depth [] (map scalar columns))

  pub preorder-places : (ms : Members) (depth : ℕ) (earlier : List (List ℕ)) → map (λ (p : Place). p.variable) (places depth earlier ms) ≡ preorder_all ms
  preorder-places no_members depth earlier = refl
  preorder-places (member m ms) depth earlier =
      ap (λ l. m ∷ l) (map-append (λ (p : Place). p.variable) (part_places (depth + 1) m) (places depth (name_of m ∷ earlier) ms))
      ∙ ap (λ l. l ++ map (λ (p : Place). p.variable) (places depth (name_of m ∷ earlier) ms)) (preorder-parts m (depth + 1))
      ∙ ap (λ l. preorder m ++ l) (preorder-places ms depth (name_of m ∷ earlier))

-- the one with a number, among those that are numbered from i on
found_by_number : {X : Type 0} (xs : List X) (i n : ℕ) → i ≤ n → option_map (λ (p : ℕ × X). p.1) (find (λ (p : ℕ × X). eqb p.0 n) (enumerate_from i xs)) ≡ slice_get xs (n - i)
found_by_number [] i n le = refl
found_by_number {X} (x ∷ xs) i n le = by (n - i) refl (λ h. found_by_number xs (i + 1) n h)
  where
    by : (k : ℕ) → n - i ≡ k → (i + 1 ≤ n → option_map (λ (p : ℕ × X). p.1) (find (λ (p : ℕ × X). eqb p.0 n) (enumerate_from (i + 1) xs)) ≡ slice_get xs (n - (i + 1)))
        → option_map (λ (p : ℕ × X). p.1) (cond (eqb i n) (Some (i, x)) (find (λ (p : ℕ × X). eqb p.0 n) (enumerate_from (i + 1) xs))) ≡ slice_get (x ∷ xs) (n - i)
    by zero is rest = let same : i ≡ n = omega arith in let test : eqb i n ≡ true = eq-eqb i n same in rw (test, is) refl
    by (suc k) is rest =
        let other : eqb i n ≡ false = grind (arith, nat_tests) in
        let less : n - (i + 1) ≡ k = omega arith in
        rw (other, is) (rest (omega arith) ∙ ap (slice_get xs) less)

option_map-map : {X Y Z : Type 0} (g : Y → Z) (f : X → Y) (o : Option X) → option_map (λ x. g (f x)) o ≡ option_map g (option_map f o)
option_map-map g f None = refl
option_map-map g f (Some x) = refl

pub member_at-get : (d : Dataset) (n : ℕ) → 1 ≤ n → member_at d n ≡ slice_get (preorder_all d.members) (n - 1)
member_at-get d n le =
    option_map-map (λ (p : Place). p.variable) (λ (p : ℕ × Place). p.1) (find (λ (p : ℕ × Place). eqb p.0 n) (enumerate_from 1 (places_of d)))
    ∙ ap (option_map (λ (p : Place). p.variable)) (found_by_number (places_of d) 1 n le)
    ∙ sym (slice_get-map (λ (p : Place). p.variable) (places_of d) (n - 1))
    ∙ ap (λ ms. slice_get ms (n - 1)) (preorder-places d.members 1 [])

pub length-preorder_all : (ms : Members) → length (preorder_all ms) ≡ count_all ms
length-preorder_all ms = ap length (sym (preorder-places ms 1 [])) ∙ length-map (places 1 [] ms) (λ (p : Place). p.variable) ∙ length-places ms 1 []

pub length-preorder : (m : Member) → length (preorder m) ≡ count m
length-preorder m = omega (arith, length-preorder_all (member m no_members), length-append (preorder m) [])

pub few_members : (d : Dataset) → IsWellFormed d → length (preorder_all d.members) ≤ 1000000
few_members d w = omega (arith, length-preorder_all d.members, length-places d.members 1 [], w.few)

-- a number that is found is within the list
pub position_within : {X : Type 0} (t : X → Bool) (xs : List X) (i n : ℕ) → position_from t i xs ≡ Some n → (i ≤ n) × (n < i + length xs)
position_within t [] i n is = absurd (none-some n is)
position_within {X} t (x ∷ xs) i n is = by (t x) (λ e. position_within t xs (i + 1) n e) is
  where
    by : (b : Bool) → (position_from t (i + 1) xs ≡ Some n → (i + 1 ≤ n) × (n < i + 1 + length xs)) → cond b (Some i) (position_from t (i + 1) xs) ≡ Some n → (i ≤ n) × (n < i + length (x ∷ xs))
    by true rest e = let same : i ≡ n = same_Some i n e in (omega arith, omega arith)
    by false rest e = let those = rest e in (omega (arith, those.0), omega (arith, those.1))

pub number_within : (d : Dataset) (path : List (List ℕ)) (n : ℕ) → number_of d path ≡ Some n → (1 ≤ n) × (n ≤ length (preorder_all d.members))
number_within d path n is =
    let within = position_within _ (paths d.members) 1 n is in
    (within.0, omega (arith, within.1, length-paths d.members, length-preorder_all d.members))
