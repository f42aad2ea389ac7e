-- What a hyperslab picks of lists that stand one behind the other.
use Rattle.std.proofs.Common.{◌≡◌, ℕ, zero, suc, ◌+◌, ◌-◌, ◌*◌, ◌/◌, ◌<◌, ◌≤◌, Bool, true, false, cond, eqb, nat_lt, List, [], ◌∷◌, ◌++◌, length, map, Option, slice_get, refl, sym, ap, ◌∙◌, arith}
use Rattle.std.proofs.Math.Nat.{le-div_iff_mul-le, min-le_left, min-le_right}
use Rattle.std.proofs.lemmas.Bool.{eqb-true, ltb-false, ltb-true}
use Rattle.std.proofs.lemmas.Grind.{flat_map-append}
use Rattle.std.proofs.lemmas.List.{map-append}
use Rattle.std.proofs.lemmas.List.Elements.{filter_map-append}
use Rattle.std.specs.List.{cons_option, filter_map, flat_map, range_with_len, zip}
use Rattle.plain_lemmas.proofs.Lists.{front_get}
use Rattle.plain_lemmas.proofs.Numbers.{one_more_times}
use Rattle.dap_types.proofs.Views.{items-trees_of}
use Rattle.dap_types.specs.Model.{Tree, kids}
use Rattle.dap_types.specs.declared.slabs.Slab.{Slab}
use Rattle.dap_model.proofs.Cuts.{values_in-cut}
use Rattle.dap_model.specs.Cutting.{cut, indexes, pick}
use Rattle.dap_model.specs.Fits.{values_in}
use Rattle.xdr_encode.proofs.Forms.{range-append}
use Rattle.join_source.specs.Cutting.{behind, count_below, front_of, indexes_of, joined_along, parts_of, JoinedCuts}

-- ---- how many indexes are below n

rounded : Slab → ℕ → ℕ
rounded s n = (n - s.start + (s.stride - 1)) / s.stride

module _ (s : Slab) (n : ℕ) (strided : 1 ≤ s.stride) where
  pub few-below : count_below s n ≤ s.count
  few-below = min-le_left s.count ((n - s.start + (s.stride - 1)) / s.stride)

  -- they are below n
  pub are-below : (k : ℕ) → k < count_below s n → s.start + k * s.stride < n
  are-below k lt =
      let up : k + 1 ≤ (n - s.start + (s.stride - 1)) / s.stride = omega (arith, lt, min-le_right s.count ((n - s.start + (s.stride - 1)) / s.stride)) in
      let room : (k + 1) * s.stride ≤ n - s.start + (s.stride - 1) = (le-div_iff_mul-le {k = s.stride} {x = k + 1} {y = n - s.start + (s.stride - 1)} strided).0 up in
      omega (arith, room, one_more_times k s.stride, strided)

  -- and the others are not
  pub not-below : count_below s n < s.count → n ≤ s.start + count_below s n * s.stride
  not-below lt = go (nat_lt (count_below s n * s.stride) (n - s.start)) refl
    where
      least : count_below s n ≡ (n - s.start + (s.stride - 1)) / s.stride
      least = omega (arith, lt)

      go : (b : Bool) → nat_lt (count_below s n * s.stride) (n - s.start) ≡ b → n ≤ s.start + count_below s n * s.stride
      go false e = let le : n - s.start ≤ count_below s n * s.stride = ltb-false (count_below s n * s.stride) (n - s.start) e in omega (arith, le)
      go true e =
          let more : count_below s n * s.stride < n - s.start = ltb-true (count_below s n * s.stride) (n - s.start) e in
          let room : (count_below s n + 1) * s.stride ≤ n - s.start + (s.stride - 1) = omega (arith, more, one_more_times (count_below s n) s.stride) in
          let up : count_below s n + 1 ≤ (n - s.start + (s.stride - 1)) / s.stride = (le-div_iff_mul-le {k = s.stride} {x = count_below s n + 1} {y = n - s.start + (s.stride - 1)} strided).1 room in
          absurd (omega (arith, up, least))

-- ---- what is picked of two lists, one behind the other

got-behind : {X : Type 0} (xs ys : List X) (i : ℕ) → slice_get (xs ++ ys) (length xs + i) ≡ slice_get ys i
got-behind [] ys i = ap (slice_get ys) (omega arith)
got-behind (x ∷ xs) ys i = ap (slice_get (x ∷ (xs ++ ys))) (along (length xs) i) ∙ got-behind xs ys i
  where
    along : (n i : ℕ) → suc n + i ≡ suc (n + i)
    along n i = omega arith

same-picked : {X : Type 0} (g h : ℕ → Option X) (f e : ℕ → ℕ) (a b m : ℕ) → ((j : ℕ) → j < m → g (f (a + j)) ≡ h (e (b + j)))
    → filter_map g (map f (range_with_len a m)) ≡ filter_map h (map e (range_with_len b m))
same-picked g h f e a b zero same = refl
same-picked g h f e a b (suc m) same =
    let here : g (f a) ≡ h (e b) = ap (λ k. g (f k)) (back a) ∙ same 0 (omega arith) ∙ sym (ap (λ k. h (e k)) (back b)) in
    ap (λ o. cons_option o (filter_map g (map f (range_with_len (a + 1) m)))) here
    ∙ ap (cons_option (h (e b))) (same-picked g h f e (a + 1) (b + 1) m (λ j lt. ap (λ k. g (f k)) (along a j) ∙ same (suc j) (omega (arith, lt)) ∙ sym (ap (λ k. h (e k)) (along b j))))
  where
    back : (a : ℕ) → a ≡ a + 0
    back a = omega arith

    along : (a j : ℕ) → a + 1 + j ≡ a + suc j
    along a j = omega arith

module _ {X : Type 0} (s : Slab) (xs ys : List X) (strided : 1 ≤ s.stride) where
  at : ℕ → ℕ
  at k = s.start + k * s.stride

  c : ℕ
  c = count_below s (length xs)

  split : indexes s ≡ map (λ k. s.start + k * s.stride) (range_with_len 0 (count_below s (length xs))) ++ map (λ k. s.start + k * s.stride) (range_with_len (0 + count_below s (length xs)) (s.count - count_below s (length xs)))
  split =
      let whole : s.count ≡ count_below s (length xs) + (s.count - count_below s (length xs)) = omega (arith, few-below s (length xs) strided) in
      ap (λ m. map (λ k. s.start + k * s.stride) (range_with_len 0 m)) whole
      ∙ ap (map (λ k. s.start + k * s.stride)) (range-append 0 (count_below s (length xs)) (s.count - count_below s (length xs)))
      ∙ map-append (λ k. s.start + k * s.stride) (range_with_len 0 (count_below s (length xs))) (range_with_len (0 + count_below s (length xs)) (s.count - count_below s (length xs)))

  first-part : filter_map (slice_get (xs ++ ys)) (map (λ k. s.start + k * s.stride) (range_with_len 0 (count_below s (length xs)))) ≡ pick (front_of s (length xs)) xs
  first-part =
      same-picked (slice_get (xs ++ ys)) (slice_get xs) (λ k. s.start + k * s.stride) (λ k. s.start + k * s.stride) 0 0 (count_below s (length xs))
      (λ j lt. front_get xs ys (s.start + (0 + j) * s.stride) (are-below s (length xs) strided (0 + j) (omega (arith, lt))))

  place-behind : (j : ℕ) → j < s.count - count_below s (length xs)
      → s.start + (0 + count_below s (length xs) + j) * s.stride ≡ length xs + ((behind s (length xs)).start + (0 + j) * s.stride)
  place-behind j lt = go (eqb s.count (count_below s (length xs))) refl
    where
      over : length xs ≤ s.start + count_below s (length xs) * s.stride
      over = not-below s (length xs) strided (omega (arith, lt))

      spread : (d j m : ℕ) → (0 + d + j) * m ≡ d * m + (0 + j) * m
      spread d j m = omega arith

      go : (b : Bool) → eqb s.count (count_below s (length xs)) ≡ b
          → s.start + (0 + count_below s (length xs) + j) * s.stride ≡ length xs + (cond b 0 (s.start + count_below s (length xs) * s.stride - length xs) + (0 + j) * s.stride)
      go true e = absurd (omega (arith, lt, eqb-true s.count (count_below s (length xs)) e))
      go false e = omega (arith, over, spread (count_below s (length xs)) j s.stride)

  last-part : filter_map (slice_get (xs ++ ys)) (map (λ k. s.start + k * s.stride) (range_with_len (0 + count_below s (length xs)) (s.count - count_below s (length xs)))) ≡ pick (behind s (length xs)) ys
  last-part =
      same-picked (slice_get (xs ++ ys)) (slice_get ys) (λ k. s.start + k * s.stride) (λ k. (behind s (length xs)).start + k * s.stride) (0 + count_below s (length xs)) 0 (s.count - count_below s (length xs))
      (λ j lt. ap (slice_get (xs ++ ys)) (place-behind j lt) ∙ got-behind xs ys ((behind s (length xs)).start + (0 + j) * s.stride))

  -- what a hyperslab picks of both is what it picks of the first, and of the second behind it
  pub pick-append : pick s (xs ++ ys) ≡ pick (front_of s (length xs)) xs ++ pick (behind s (length xs)) ys
  pick-append =
      ap (filter_map (slice_get (xs ++ ys))) split
      ∙ filter_map-append (slice_get (xs ++ ys)) (map (λ k. s.start + k * s.stride) (range_with_len 0 (count_below s (length xs)))) (map (λ k. s.start + k * s.stride) (range_with_len (0 + count_below s (length xs)) (s.count - count_below s (length xs))))
      ∙ ap (λ zs. zs ++ filter_map (slice_get (xs ++ ys)) (map (λ k. s.start + k * s.stride) (range_with_len (0 + count_below s (length xs)) (s.count - count_below s (length xs))))) first-part
      ∙ ap (λ zs. pick (front_of s (length xs)) xs ++ zs) last-part

-- ---- of any number of lists

nothing-picked : {X : Type 0} (is : List ℕ) → filter_map (slice_get {X = X} []) is ≡ []
nothing-picked [] = refl
nothing-picked (i ∷ is) = nothing-picked is

-- a hyperslab of lists that stand one behind the other picks what its parts pick of each
abbrev pub JoinedPicks : Type 0 → Type 0
JoinedPicks X = (s : Slab) (xss : List (List X)) → 1 ≤ s.stride →
    pick s (flat_map (λ xs. xs) xss) ≡ flat_map (λ p. pick p.0 p.1) (zip (parts_of s (map length xss)) xss)

pub joined_picks : {X : Type 0} → JoinedPicks X
joined_picks s [] strided = nothing-picked (indexes s)
joined_picks s (xs ∷ xss) strided =
    pick-append s xs (flat_map (λ ys. ys) xss) strided
    ∙ ap (λ zs. pick (front_of s (length xs)) xs ++ zs) (joined_picks (behind s (length xs)) xss strided)

cut-each : (s : Slab) (rest : List Slab) (ts : List Tree) → 1 ≤ s.stride
    → flat_map (λ u. values_in (cut rest u)) (pick s (flat_map kids ts)) ≡ flat_map (λ p. values_in (cut (p.0 ∷ rest) p.1)) (zip (parts_of s (indexes_of ts)) ts)
cut-each s rest [] strided = ap (flat_map (λ u. values_in (cut rest u))) (nothing-picked (indexes s))
cut-each s rest (t ∷ ts) strided =
    ap (flat_map (λ u. values_in (cut rest u))) (pick-append s (kids t) (flat_map kids ts) strided)
    ∙ flat_map-append (λ u. values_in (cut rest u)) (pick (front_of s (length (kids t))) (kids t)) (pick (behind s (length (kids t))) (flat_map kids ts))
    ∙ ap (λ vs. vs ++ flat_map (λ u. values_in (cut rest u)) (pick (behind s (length (kids t))) (flat_map kids ts))) (sym (values_in-cut (front_of s (length (kids t))) rest t))
    ∙ ap (λ vs. values_in (cut (front_of s (length (kids t)) ∷ rest) t) ++ vs) (cut-each (behind s (length (kids t))) rest ts strided)

pub joined_cuts : JoinedCuts
joined_cuts s rest ts strided =
    values_in-cut s rest (joined_along ts)
    ∙ ap (λ us. flat_map (λ u. values_in (cut rest u)) (pick s us)) (items-trees_of (flat_map kids ts))
    ∙ cut-each s rest ts strided
