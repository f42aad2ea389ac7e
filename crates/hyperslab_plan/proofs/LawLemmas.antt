-- The laws of places, plans and batches.
use Rattle.std.proofs.Common.{◌≡◌, ℕ, zero, suc, ◌+◌, ◌-◌, ◌*◌, ◌^◌, ◌<◌, ◌≤◌, List, [], ◌∷◌, ◌++◌, length, map, take, drop, get_or, refl, sym, ap, subst, ◌∙◌, arith, zero-add, add-zero}
use Rattle.std.proofs.lemmas.List.Elements.{All-cons, All-nil}
use Rattle.std.proofs.lemmas.List.FromFn.{get_or-map-range_with_len, length-map-range_with_len}
use Rattle.std.specs.List.{All, range_with_len}
use Rattle.dap_types.specs.declared.slabs.Slab.{Slab}
use Rattle.dap_model.specs.Cutting.{AreWithin, indexes}
use Rattle.dap_model.specs.Indexing.{AreIndexes, distance}
use Rattle.hyperslab_plan.specs.Laws.{CutsArePlaced, PlansCut, PickedAreWithin, PickedAreBelow, LastIsHighest, PlansAreWithin, BatchHolds, BatchIsFetched, TurnsAreWhole}
use Rattle.hyperslab_plan.specs.Nested.{cut_values}
use Rattle.hyperslab_plan.specs.Picked.{picked}
use Rattle.hyperslab_plan.specs.Plans.{places, place_of, place_in, size_in, total_of}
use Rattle.hyperslab_plan.proofs.CutLemmas.{cut_values-picked}
use Rattle.hyperslab_plan.proofs.FetchedLemmas.{fetched}
use Rattle.hyperslab_plan.proofs.NestedLemmas.{All-whole}
use Rattle.hyperslab_plan.proofs.PickedLemmas.{picked-below_reach}
use Rattle.hyperslab_plan.proofs.RunLemmas.{held, place-in_raw}

-- ---- what is cut stands at the places

pub cuts_are_placed : CutsArePlaced
unfolding cut_values
cuts_are_placed slabs sizes steps base value within e = cut_values-picked slabs value sizes steps base within e

map-twice : {X Y : Type 0} (g : X → Y) (f : ℕ → X) (ks : List ℕ) → map g (map f ks) ≡ map (λ k. g (f k)) ks
map-twice g f [] = refl
map-twice g f (k ∷ ks) = ap (λ ys. g (f k) ∷ ys) (map-twice g f ks)

pub plans_cut : PlansCut
unfolding places
plans_cut plan slabs sizes steps base value within e at =
    cuts_are_placed slabs sizes steps base value within e ∙ sym (ap (map value) at) ∙ map-twice value (place_of plan) (range_with_len 0 (total_of plan))

-- ---- picked elements stand where elements of the array do

picked-each : (P : ℕ → Type 0) (slabs : List Slab) (sizes steps : List ℕ) (base : ℕ) → AreWithin slabs sizes → length slabs ≡ length steps →
    ((is : List ℕ) → AreIndexes sizes is → P (base + distance steps is)) → All P (picked slabs steps base)
unfolding picked AreIndexes
picked-each P [] [] [] base w e each = All-cons P base [] (subst P (add-zero base) (each [] tt)) (All-nil P)
picked-each P [] [] (t ∷ ts) base w e each = absurd (omega arith)
picked-each P [] (n ∷ ns) ts base w e each = absurd w
picked-each P (s ∷ ss) [] ts base w e each = absurd w
picked-each P (s ∷ ss) (n ∷ ns) [] base w e each = absurd (omega arith)
picked-each P (s ∷ ss) (n ∷ ns) (t ∷ ts) base w e each =
    All-whole P (λ i. picked ss ts (base + i * t)) (indexes s)
    (λ k z lt. inner (picked-each P ss ns ts (base + get_or (indexes s) k z * t) w.1 (omega arith)) (get_or (indexes s) k z) refl (w.0.1 k z lt))
  where
    further : (x y z : ℕ) → x + (y + z) ≡ x + y + z
    further x y z = omega arith

    inner : {A : Type 0} {b : ℕ} → (((is : List ℕ) → AreIndexes ns is → P (b + distance ts is)) → A) → (i : ℕ) → b ≡ base + i * t → i < n → A
    inner deeper i is_base below =
        deeper (λ is there. subst P (further base (i * t) (distance ts is) ∙ ap (λ x. x + distance ts is) (sym is_base)) (each (i ∷ is) (below, there)))

pub picked_are_within : PickedAreWithin
picked_are_within slabs sizes steps base size file_len within e each = picked-each (λ place. place + size ≤ file_len) slabs sizes steps base within e each

pub picked_are_below : PickedAreBelow
picked_are_below slabs sizes steps base size file_len within e each some short =
    let all = picked_are_within slabs sizes steps base size file_len within e each in
    λ k z lt. below (get_or (picked slabs steps base) k z) (all k z lt)
  where
    below : (place : ℕ) → place + size ≤ file_len → place < 2 ^ 63
    below place fits = omega (arith, fits, some, short)

pub last_is_highest : LastIsHighest
last_is_highest slabs sizes steps base most within e below = picked-below_reach slabs sizes steps base most within e below

pub plans_are_within : PlansAreWithin
unfolding places
plans_are_within plan slabs sizes steps base size file_len within e each at p lt =
    let all : All (λ place. place + size ≤ file_len) (places plan) = subst (All (λ place. place + size ≤ file_len)) (sym at) (picked_are_within slabs sizes steps base size file_len within e each) in
    subst (λ place. place + size ≤ file_len) (get_or-map-range_with_len (place_of plan) 0 (total_of plan) p p 0 lt (zero-add p))
    (all p 0 (subst (λ n. p < n) (sym (length-map-range_with_len (place_of plan) 0 (total_of plan))) lt))

-- ---- batches

pub batch_holds : BatchHolds
batch_holds plan b is j lt = (held plan b j is lt, place-in_raw plan b j is lt)

pub same-ranges : {X : Type 0} (f g : ℕ → X) (a c n : ℕ) → ((j : ℕ) → j < n → f (a + j) ≡ g (c + j)) → map f (range_with_len a n) ≡ map g (range_with_len c n)
same-ranges f g a c zero same = refl
same-ranges f g a c (suc n) same =
    ap (λ x. x ∷ map f (range_with_len (a + 1) n)) (ap f (sym (add-zero a)) ∙ same 0 (omega arith) ∙ ap g (add-zero c))
    ∙ ap (λ xs. g c ∷ xs) (same-ranges f g (a + 1) (c + 1) n (λ j lt. ap f (shift a j) ∙ same (suc j) (omega arith) ∙ ap g (sym (shift c j))))
  where
    shift : (a j : ℕ) → a + 1 + j ≡ a + suc j
    shift a j = omega arith

pub batch_is_fetched : BatchIsFetched
batch_is_fetched plan b file raw is got =
    same-ranges (λ j. take (size_in plan) (drop (place_in plan j) raw)) (λ p. take (size_in plan) (drop (place_of plan p) file)) 0 b.first b.count
    (λ j lt. ap (λ x. take (size_in plan) (drop (place_in plan x) raw)) (zero-add j) ∙ fetched plan b j file raw is lt got)

joined-ranges : (a m n : ℕ) → range_with_len a m ++ range_with_len (a + m) n ≡ range_with_len a (m + n)
joined-ranges a zero n = ap (λ x. range_with_len x n) (add-zero a) ∙ ap (range_with_len a) (sym (zero-add n))
joined-ranges a (suc m) n =
    ap (λ xs. a ∷ xs) (ap (λ x. range_with_len (a + 1) m ++ range_with_len x n) (shift a m) ∙ joined-ranges (a + 1) m n)
    ∙ ap (range_with_len a) (more m n)
  where
    shift : (a m : ℕ) → a + suc m ≡ a + 1 + m
    shift a m = omega arith

    more : (m n : ℕ) → suc (m + n) ≡ suc m + n
    more m n = omega arith

pub turns_are_whole : TurnsAreWhole
turns_are_whole plan [] from upto turn = (omega (arith, turn), ap (range_with_len from) (none from upto turn))
  where
    none : (a b : ℕ) → a ≡ b → 0 ≡ b - a
    none a b e = omega (arith, e)
turns_are_whole plan (b ∷ batches) from upto turn =
    let rest = turns_are_whole plan batches (from + b.count) upto turn.2 in (
      omega (arith, rest.0),
      ap (λ xs. range_with_len b.first b.count ++ xs) rest.1
          ∙ ap (λ x. range_with_len x b.count ++ range_with_len (from + b.count) (upto - (from + b.count))) turn.1
          ∙ joined-ranges from b.count (upto - (from + b.count))
          ∙ ap (range_with_len from) (left from b.count upto rest.0),
    )
  where
    left : (a c b : ℕ) → a + c ≤ b → c + (b - (a + c)) ≡ b - a
    left a c b le = omega (arith, le)
