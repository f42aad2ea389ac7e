-- A dataset is not too large exactly where its text and its members keep the limits.
use Rattle.std.proofs.Common.{◌≡◌, ℕ, ◌+◌, ◌<◌, ◌≤◌, ◌^◌, List, [], ◌∷◌, length, map, filter, All, Bool, true, false, cond, ltb, Option, Some, None, refl, arith}
use Rattle.std.specs.List.{enumerate_from, position_from}
use Rattle.std.proofs.lemmas.Bool.{ltb-false, le-ltb}
use Rattle.std.proofs.lemmas.List.Elements.{All-cons, All-map, All-nil}
use Rattle.dap_types.specs.Model.{Member, scalar, array, structure, grid, sequence, Dataset, Tree}
use Rattle.dap_types.specs.WellFormed.{IsWellFormed, Place, elements_of, is_leaf, places_of}
use Rattle.dap_model.proofs.PrintedDataset.{reads_body}
use Rattle.dap_model.proofs.Values.{all_first, all_rest}
use Rattle.dap_model.specs.Body.{IsBody, body, too_large}
use Rattle.dap_model.specs.Dds.{dds}
use Rattle.dap_model.specs.Fits.{FitsAll}
use Rattle.dap_model.specs.Grammar.{HasWords}

abbrev most : ℕ
most = 2147483647

abbrev Few : Member → Type 0
Few m = elements_of m ≤ most

abbrev has_many : ℕ × Member → Bool
has_many leaf = ltb most (elements_of leaf.1)

-- the first leaf with too many elements, among members that are numbered from i on
abbrev first_many : ℕ → ℕ → List Member → Option ℕ
first_many n i ms = position_from has_many n (filter (λ (leaf : ℕ × Member). is_leaf leaf.1) (enumerate_from i ms))

-- a whole has one
few_in_whole : (m : Member) → is_leaf m ≡ false → Few m
few_in_whole (scalar column) e = cc
few_in_whole (array a) e = cc
few_in_whole (structure name parts) e = omega arith
few_in_whole (grid name a maps) e = omega arith
few_in_whole (sequence name columns) e = omega arith

few_each : (ms : List Member) (n i : ℕ) → first_many n i ms ≡ None → All Few ms
few_each [] n i none = All-nil Few
few_each (m ∷ ms) n i none = by (is_leaf m) refl none (λ k e. few_each ms k (i + 1) e)
  where
    rest : List (ℕ × Member)
    rest = filter (λ (leaf : ℕ × Member). is_leaf leaf.1) (enumerate_from (i + 1) ms)

    here : (b : Bool) → ltb most (elements_of m) ≡ b → cond b (Some n) (position_from has_many (n + 1) rest) ≡ None → (first_many (n + 1) (i + 1) ms ≡ None → All Few ms) → All Few (m ∷ ms)
    here true e is more = cc
    here false e is more = All-cons Few m ms (ltb-false most (elements_of m) e) (more is)

    by : (b : Bool) → is_leaf m ≡ b → position_from has_many n (cond b ((i, m) ∷ rest) rest) ≡ None → ((k : ℕ) → first_many k (i + 1) ms ≡ None → All Few ms) → All Few (m ∷ ms)
    by true leaf is more = here (ltb most (elements_of m)) refl is (λ e. more (n + 1) e)
    by false whole is more = All-cons Few m ms (few_in_whole m whole) (more n is)

none_many : (ms : List Member) (n i : ℕ) → All Few ms → first_many n i ms ≡ None
none_many [] n i all = refl
none_many (m ∷ ms) n i all = by (is_leaf m) (λ k. none_many ms k (i + 1) (all_rest Few m ms all))
  where
    rest : List (ℕ × Member)
    rest = filter (λ (leaf : ℕ × Member). is_leaf leaf.1) (enumerate_from (i + 1) ms)

    by : (b : Bool) → ((k : ℕ) → position_from has_many k rest ≡ None) → position_from has_many n (cond b ((i, m) ∷ rest) rest) ≡ None
    by true none = let few : ltb most (elements_of m) ≡ false = le-ltb most (elements_of m) (all_first Few m ms all) in rw few (none (n + 1))
    by false none = none n

-- of the places, and of the members there
few_at : (ps : List Place) → All Few (map (λ (p : Place). p.variable) ps) → All (λ p. Few p.variable) ps
few_at [] all = All-nil (λ (p : Place). Few p.variable)
few_at (p ∷ ps) all =
    All-cons (λ (q : Place). Few q.variable) p ps (all_first Few p.variable (map (λ (q : Place). q.variable) ps) all) (few_at ps (all_rest Few p.variable (map (λ (q : Place). q.variable) ps) all))

pub within_limits : (d : Dataset) → too_large d ≡ None → (length (dds d) ≤ 16777216) × All (λ p. elements_of p.variable ≤ 2147483647) (places_of d)
within_limits d none = by (ltb 16777216 (length (dds d))) refl none
  where
    by : (b : Bool) → ltb 16777216 (length (dds d)) ≡ b → cond b (Some 0) (first_many 1 1 (map (λ (p : Place). p.variable) (places_of d))) ≡ None
        → (length (dds d) ≤ 16777216) × All (λ p. elements_of p.variable ≤ 2147483647) (places_of d)
    by true e is = cc
    by false e is = (ltb-false 16777216 (length (dds d)) e, few_at (places_of d) (few_each (map (λ (p : Place). p.variable) (places_of d)) 1 1 is))

pub not_too_large : (d : Dataset) → length (dds d) ≤ 16777216 → All (λ p. elements_of p.variable ≤ 2147483647) (places_of d) → too_large d ≡ None
not_too_large d short few =
    let keeps : ltb 16777216 (length (dds d)) ≡ false = le-ltb 16777216 (length (dds d)) short in
    rw keeps (none_many (map (λ (p : Place). p.variable) (places_of d)) 1 1 (All-map Few (λ (p : Place). p.variable) (places_of d) few))

pub sent_is_read : (d : Dataset) (ts : List Tree) → HasWords d → IsWellFormed d → FitsAll d.members ts → too_large d ≡ None → length (body d ts) < 2 ^ 40 → IsBody (body d ts) d ts
sent_is_read d ts words is fit none short =
    let limits = within_limits d none in
    reads_body d ts words is fit (λ k p lt. let few = limits.1 k p lt in omega (arith, few)) limits.0 short
