-- Members and their parts by their places in preorder.
use Rattle.std.proofs.Common.{◌≡◌, ℕ, zero, suc, ◌+◌, ◌-◌, ◌<◌, ◌≤◌, List, [], ◌∷◌, ◌++◌, length, map, slice_get, Some, refl, ap, ◌∙◌, sym, arith, length-append, ⊎_elim, ◌⊎◌, inl, inr}
use Rattle.std.proofs.lemmas.Option.{none-some, same_Some}
use Rattle.std.proofs.lemmas.List.{length-map}
use Rattle.plain_lemmas.proofs.Lists.{front_get}
use Rattle.dap_types.specs.Model.{Member, scalar, array, structure, grid, sequence, Members, no_members, member}
use Rattle.dap_types.specs.Preorder.{preorder, preorder_all}

-- a member stands before its parts
at_leaf : {X : Type 0} (f : X → Member) (one : (x : X) → length (preorder (f x)) ≡ 1) (xs : List X) (k : ℕ) (m : Member) → slice_get (map f xs) k ≡ Some m → k + length (preorder m) ≤ length xs
at_leaf f one [] k m is = cc
at_leaf f one (x ∷ xs) zero m is = let same : f x ≡ m = cc in omega (arith, one x, ap (λ n. length (preorder n)) same)
at_leaf f one (x ∷ xs) (suc k) m is = omega (arith, at_leaf f one xs k m is)

pub in_front : {X : Type 0} (xs ys : List X) (k : ℕ) (x : X) → slice_get (xs ++ ys) k ≡ Some x → (slice_get xs k ≡ Some x) ⊎ ((length xs ≤ k) × (slice_get ys (k - length xs) ≡ Some x))
in_front [] ys k x is = let same : k - 0 ≡ k = omega arith in inr (omega arith, rw same is)
in_front (z ∷ xs) ys zero x is = inl is
in_front (z ∷ xs) ys (suc k) x is =
    let same : suc k - suc (length xs) ≡ k - length xs = omega arith in
    ⊎_elim (λ e. inl e) (λ e. inr (omega (arith, e.0), rw same e.1)) (in_front xs ys k x is)

mutual
  pub stands : (m0 : Member) (k : ℕ) (m : Member) → slice_get (preorder m0) k ≡ Some m → k + length (preorder m) ≤ length (preorder m0)
  stands (scalar column) k m is = at_leaf scalar (λ c. refl) (column ∷ []) k m is
  stands (array a) k m is = at_leaf array (λ b. refl) (a ∷ []) k m is
  stands (structure name parts) zero m is = let same : structure name parts ≡ m = cc in omega (arith, ap (λ n. length (preorder n)) same)
  stands (structure name parts) (suc k) m is = omega (arith, stand parts k m is)
  stands (grid name a maps) zero m is = let same : grid name a maps ≡ m = cc in omega (arith, ap (λ n. length (preorder n)) same)
  stands (grid name a maps) (suc k) m is = omega (arith, at_leaf array (λ b. refl) (a ∷ maps) k m is, length-map maps array)
  stands (sequence name columns) zero m is = let same : sequence name columns ≡ m = cc in omega (arith, ap (λ n. length (preorder n)) same)
  stands (sequence name columns) (suc k) m is = omega (arith, at_leaf scalar (λ c. refl) columns k m is, length-map columns scalar)

  pub stand : (ms : Members) (k : ℕ) (m : Member) → slice_get (preorder_all ms) k ≡ Some m → k + length (preorder m) ≤ length (preorder_all ms)
  stand no_members k m is = cc
  stand (member m0 ms) k m is =
      ⊎_elim (λ e. omega (arith, stands m0 k m e, length-append (preorder m0) (preorder_all ms)))
      (λ e. omega (arith, e.0, stand ms (k - length (preorder m0)) m e.1, length-append (preorder m0) (preorder_all ms)))
      (in_front (preorder m0) (preorder_all ms) k m is)

pub back_get : {X : Type 0} (xs ys : List X) (k n : ℕ) → n ≡ length xs + k → slice_get (xs ++ ys) n ≡ slice_get ys k
back_get [] ys k n is = ap (slice_get ys) (omega arith)
back_get (x ∷ xs) ys k zero is = absurd (omega arith)
back_get (x ∷ xs) ys k (suc n) is = back_get xs ys k n (omega arith)

leaf_get : {X : Type 0} (f : X → Member) (one : (x : X) → preorder (f x) ≡ f x ∷ []) (xs : List X) (k : ℕ) (m : Member) → slice_get (map f xs) k ≡ Some m → (j n : ℕ) → j < length (preorder m) → n ≡ k + j → slice_get (map f xs) n ≡ slice_get (preorder m) j
leaf_get f one [] k m is j n lt at = absurd (none-some m is)
leaf_get f one (x ∷ xs) zero m is zero n lt at =
    let same : f x ≡ m = same_Some (f x) m is in
    let start : n ≡ 0 = omega arith in
    rw start (ap (λ l. slice_get l 0) (sym (one x)) ∙ ap (λ y. slice_get (preorder y) 0) same)
leaf_get f one (x ∷ xs) zero m is (suc j) n lt at =
    let same : f x ≡ m = same_Some (f x) m is in
    let long : length (preorder m) ≡ 1 = ap (λ y. length (preorder y)) (sym same) ∙ ap length (one x) in absurd (omega arith)
leaf_get f one (x ∷ xs) (suc k) m is j zero lt at = absurd (omega arith)
leaf_get f one (x ∷ xs) (suc k) m is j (suc n) lt at = leaf_get f one xs k m is j n lt (omega arith)

mutual
  place_in : (m0 : Member) (k : ℕ) (m : Member) → slice_get (preorder m0) k ≡ Some m → (j n : ℕ) → j < length (preorder m) → n ≡ k + j → slice_get (preorder m0) n ≡ slice_get (preorder m) j
  place_in (scalar column) k m is j n lt at = leaf_get scalar (λ c. refl) (column ∷ []) k m is j n lt at
  place_in (array a) k m is j n lt at = leaf_get array (λ b. refl) (a ∷ []) k m is j n lt at
  place_in (structure name parts) zero m is j n lt at =
      let start : n ≡ j = omega arith in rw start (ap (λ y. slice_get (preorder y) j) (same_Some (structure name parts) m is))
  place_in (structure name parts) (suc k) m is j zero lt at = absurd (omega arith)
  place_in (structure name parts) (suc k) m is j (suc n) lt at = place_all parts k m is j n lt (omega arith)
  place_in (grid name a maps) zero m is j n lt at =
      let start : n ≡ j = omega arith in rw start (ap (λ y. slice_get (preorder y) j) (same_Some (grid name a maps) m is))
  place_in (grid name a maps) (suc k) m is j zero lt at = absurd (omega arith)
  place_in (grid name a maps) (suc k) m is j (suc n) lt at = leaf_get array (λ b. refl) (a ∷ maps) k m is j n lt (omega arith)
  place_in (sequence name columns) zero m is j n lt at =
      let start : n ≡ j = omega arith in rw start (ap (λ y. slice_get (preorder y) j) (same_Some (sequence name columns) m is))
  place_in (sequence name columns) (suc k) m is j zero lt at = absurd (omega arith)
  place_in (sequence name columns) (suc k) m is j (suc n) lt at = leaf_get scalar (λ c. refl) columns k m is j n lt (omega arith)

  pub place_all : (ms : Members) (k : ℕ) (m : Member) → slice_get (preorder_all ms) k ≡ Some m → (j n : ℕ) → j < length (preorder m) → n ≡ k + j → slice_get (preorder_all ms) n ≡ slice_get (preorder m) j
  place_all no_members k m is j n lt at = absurd (none-some m is)
  place_all (member m0 ms) k m is j n lt at =
      ⊎_elim
      (λ e. front_get (preorder m0) (preorder_all ms) n (omega (arith, stands m0 k m e)) ∙ place_in m0 k m e j n lt at)
      (λ e. back_get (preorder m0) (preorder_all ms) (n - length (preorder m0)) n (omega (arith, e.0)) ∙ place_all ms (k - length (preorder m0)) m e.1 j (n - length (preorder m0)) lt (omega (arith, e.0)))
      (in_front (preorder m0) (preorder_all ms) k m is)
