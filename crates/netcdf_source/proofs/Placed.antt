-- The place that the steps lead to is that of the piece that chopping gives.
use Rattle.std.proofs.Common.{◌≡◌, ◌≢◌, ℕ, zero, suc, ◌+◌, ◌-◌, ◌*◌, ◌/◌, ◌<◌, ◌≤◌, Bool, true, false, not, ◌&&◌, cond, eqb, ltb, List, [], ◌∷◌, ◌++◌, length, map, take, drop, Option, Some, None, MatchOption, refl, sym, ap, subst, ◌∙◌, arith}
use Rattle.std.specs.List.{position_from}
use Rattle.std.specs.Prelude.{option_map, option_and_then, slice_get}
use Rattle.std.proofs.lemmas.Bool.{ltb-false, ne_eqb}
use Rattle.std.proofs.lemmas.List.{length-take, length-drop, take_all, take-take, drop-drop, drop-take}
use Rattle.std.proofs.Math.Nat.{mul-le-mul_right, mul-div_cancel_left}
use Rattle.std.proofs.lemmas.Nat.{row_fits}
use Rattle.dap_types.specs.Model.{product}
use Rattle.dap_types.specs.declared.slabs.Layout.{Layout}
use Rattle.dap_model.specs.Indexing.{AreIndexes, distance}
use Rattle.netcdf_source.specs.Layouts.{slice, piece, chopped, element_sizes, whole_slice, record_slice, element_at, row_steps, steps_of, layout_of, place, IsPlaced, LeafIsPlaced}
use Rattle.netcdf_source.specs.Mapping.{leaf_in, leaves_from, leaf_variable, is_char, has_single_bytes, has_texts, size_at, element_dimensions, element_size}
use Rattle.netcdf_source.specs.Parts.{length_at, lengths, inner, is_record, begins_with_records, part, record_size, end_of, is_past, past_end}
use Rattle.netcdf_source.specs.inner.Sound.{InTurn, IsVariable, IsSound}
use Rattle.netcdf_source.specs.declared.header.Contents.{Contents}
use Rattle.netcdf_source.specs.declared.header.Variable.{Variable}
use Rattle.netcdf_source.proofs.Steps.{ArePositive, and_yes, length_of_map, element_lengths, element_part, element_positive}

-- ---- slices of slices

slice_slice : (xs : List ℕ) (a p d w : ℕ) → d + w ≤ p → slice (slice xs a p) d w ≡ slice xs (a + d) w
slice_slice xs a p d w le =
    let split : p ≡ d + (p - d) = omega arith in
    let one : drop d (take p (drop a xs)) ≡ take (p - d) (drop d (drop a xs)) = ap (λ (k : ℕ). drop d (take k (drop a xs))) split ∙ drop-take d (p - d) (drop a xs) in
    ap (take w) one ∙ take-take w (p - d) (drop d (drop a xs)) (omega arith) ∙ ap (take w) (drop-drop d a xs)

pub length-slice : (xs : List ℕ) (a p : ℕ) → a + p ≤ length xs → length (slice xs a p) ≡ p
length-slice xs a p le = omega (arith, length-take p (drop a xs), length-drop a xs)

-- ---- pieces

within_row : (i n m : ℕ) → i < n → i * m + m ≤ n * m
within_row i n m lt = row_fits i m n m lt (omega arith)

pub chop_is : (ns is bytes : List ℕ) (w : ℕ) → length bytes ≡ product ns * w → AreIndexes ns is
    → (distance (row_steps w ns) is + w ≤ length bytes) × (chopped ns is bytes ≡ slice bytes (distance (row_steps w ns) is) w)
unfolding AreIndexes row_steps chopped
chop_is [] [] bytes w len h = (omega (arith, len), sym (take_all w bytes (omega (arith, len))))
chop_is [] (i ∷ is) bytes w len h = absurd h
chop_is (n ∷ ns) [] bytes w len h = absurd h
chop_is (n ∷ ns) (i ∷ is) bytes w len h =
    let m = product ns * w in
    let some : 0 < n = omega (arith, h.0) in
    let total : length bytes ≡ n * m = len ∙ regroup n (product ns) w in
    let size : length bytes / n ≡ m = ap (λ (k : ℕ). k / n) total ∙ mul-div_cancel_left m some in
    let row : i * m + m ≤ length bytes = omega (arith, total, within_row i n m h.0) in
    let piece_is : piece n i bytes ≡ slice bytes (i * m) m = ap (λ (k : ℕ). slice bytes (i * k) k) size in
    let inside = chop_is ns is (slice bytes (i * m) m) w (length-slice bytes (i * m) m row) h.1 in
    let short : distance (row_steps w ns) is + w ≤ m = omega (arith, inside.0, length-slice bytes (i * m) m row) in
    let step : i * (w * product ns) ≡ i * m = turned i w (product ns) in (
      omega (arith, row, short, step),
      ap (chopped ns is) piece_is ∙ inside.1 ∙ slice_slice bytes (i * m) m (distance (row_steps w ns) is) w short
          ∙ ap (λ (k : ℕ). slice bytes (k + distance (row_steps w ns) is) w) (sym step),
    )
  where
    regroup : (n p w : ℕ) → n * p * w ≡ n * (p * w)
    regroup n p w = omega arith

    turned : (i w p : ℕ) → i * (w * p) ≡ i * (p * w)
    turned i w p = omega arith

-- ---- the sizes of the elements

sizes_positive : (c : Contents) (ids : List ℕ) → ArePositive (lengths c.dimensions ids) → map (size_at c) ids ≡ lengths c.dimensions ids
sizes_positive c [] h = refl
sizes_positive c (i ∷ ids) h = head (length_at c.dimensions i) h.0 (sizes_positive c ids h.1)
  where
    head : (n : ℕ) → n ≢ 0 → map (size_at c) ids ≡ lengths c.dimensions ids → cond (eqb n 0) c.records n ∷ map (size_at c) ids ≡ n ∷ lengths c.dimensions ids
    head n ne e = rw (ne_eqb n 0 ne, e) refl

pub plain_sizes : (c : Contents) (ids : List ℕ) → begins_with_records (lengths c.dimensions ids) ≡ false → ArePositive (inner (lengths c.dimensions ids))
    → (map (size_at c) ids ≡ lengths c.dimensions ids) × (inner (lengths c.dimensions ids) ≡ lengths c.dimensions ids)
plain_sizes c [] e h = (refl, refl)
plain_sizes c (i ∷ ids) e h =
    let whole : inner (lengths c.dimensions (i ∷ ids)) ≡ lengths c.dimensions (i ∷ ids) = rw e refl in
    (sizes_positive c (i ∷ ids) (subst ArePositive whole h), whole)

-- a record variable's elements: records, and the lengths inside a record
pub record_sizes : (c : Contents) (ids : List ℕ) → begins_with_records (lengths c.dimensions ids) ≡ true → ArePositive (inner (lengths c.dimensions ids))
    → map (size_at c) ids ≡ c.records ∷ inner (lengths c.dimensions ids)
record_sizes c [] e h = absurd cc
record_sizes c (i ∷ ids) e h =
    let rest : inner (lengths c.dimensions (i ∷ ids)) ≡ lengths c.dimensions ids = rw e refl in
    let tail = sizes_positive c ids (subst ArePositive rest h) in
    let head : size_at c i ≡ c.records = rw e refl in
    ap (λ n. n ∷ map (size_at c) ids) head ∙ ap (λ ns. c.records ∷ ns) (tail ∙ sym rest)

texts_record : (ns : List ℕ) → has_single_bytes ns ≡ false → begins_with_records (take (length ns - 1) ns) ≡ begins_with_records ns
texts_record [] e = absurd cc
texts_record (n ∷ []) e = sym e
texts_record (n ∷ m ∷ ns) e =
    let last : suc (suc (length ns)) - 1 ≡ suc (length ns) = omega arith in
    ap (λ (k : ℕ). begins_with_records (take k (n ∷ m ∷ ns))) last

pub element_record : (c : Contents) (v : Variable) → is_record c.dimensions (element_dimensions c v) ≡ is_record c.dimensions v.dimensions
unfolding has_texts
element_record c v = ap begins_with_records (element_lengths c v) ∙ go (has_texts c v) refl
  where
    ns : List ℕ
    ns = lengths c.dimensions v.dimensions

    go : (b : Bool) → (is_char v && not (has_single_bytes ns)) ≡ b → begins_with_records (cond b (take (length v.dimensions - 1) ns) ns) ≡ begins_with_records ns
    go true e = ap (λ (k : ℕ). begins_with_records (take (k - 1) ns)) (sym (length_of_map c.dimensions v.dimensions)) ∙ texts_record ns (and_yes (is_char v) (has_single_bytes ns) e).1
    go false e = refl

-- ---- a variable that is not past the end

not_past : (b : Bool) (records : ℕ) (p : Bool) → (not (b && eqb records 0) && p) ≡ false → (b ≡ true → records ≢ 0) → p ≡ false
not_past true records p h some = rw (ne_eqb records 0 (some refl)) at h
not_past false records p h some = h

ends_within : (c : Contents) (file_len : ℕ) (v : Variable) → is_past c file_len v ≡ false → (is_record c.dimensions v.dimensions ≡ true → c.records ≢ 0) → end_of c v ≤ file_len
ends_within c file_len v h some = ltb-false _ _ (not_past (is_record c.dimensions v.dimensions) c.records (ltb file_len (end_of c v)) h some)

plain_placed : (c : Contents) (file_len : ℕ) (v : Variable) → ArePositive (inner (lengths c.dimensions (element_dimensions c v)))
    → is_record c.dimensions v.dimensions ≡ false → is_past c file_len v ≡ false → IsPlaced c file_len v (layout_of c v)
unfolding IsPlaced element_at steps_of end_of
plain_placed c file_len v positive plain past = λ file is len within.
    let ids = element_dimensions c v in
    let not_record : is_record c.dimensions ids ≡ false = element_record c v ∙ plain in
    let s = plain_sizes c ids not_record positive in
    let w = element_size c v in
    let p = part c.dimensions v.dimensions v.external_type in
    let end : v.begin + 0 * record_size c.dimensions c.variables + p ≤ file_len = rw plain at (ends_within c file_len v past (λ e. absurd (no_both (sym plain ∙ e)))) in
    let enough : v.begin + p ≤ length file = omega (arith, end, len) in
    let bytes = whole_slice c file v in
    let count : length bytes ≡ product (element_sizes c v) * w = length-slice file v.begin p enough ∙ sym (element_part c v) ∙ ap (λ ns. product ns * w) (s.1 ∙ sym s.0) in
    let steps : steps_of c v ≡ row_steps w (element_sizes c v) = rw not_record (ap (row_steps w) (s.1 ∙ sym s.0)) in
    let chop = chop_is (element_sizes c v) is bytes w count within in
    let far : distance (steps_of c v) is ≡ distance (row_steps w (element_sizes c v)) is = ap (λ ss. distance ss is) steps in
    let short : distance (row_steps w (element_sizes c v)) is + w ≤ p = omega (arith, chop.0, length-slice file v.begin p enough) in (
      omega (arith, far, short, enough, len),
      rw (far, plain) (sym (chop.1 ∙ slice_slice file v.begin p (distance (row_steps w (element_sizes c v)) is) w short)),
    )
  where
    no_both : false ≡ true → ⊥
    no_both e = cc

record_fits : (k records step begin size file_len : ℕ) → k < records → begin + (records - 1) * step + size ≤ file_len → begin + k * step + size ≤ file_len
record_fits k records step begin size file_len lt le = omega (arith, le, mul-le-mul_right step (less k records lt))
  where
    less : (k records : ℕ) → k < records → k ≤ records - 1
    less k records lt = omega arith

record_placed : (c : Contents) (file_len : ℕ) (v : Variable) → ArePositive (inner (lengths c.dimensions (element_dimensions c v)))
    → is_record c.dimensions v.dimensions ≡ true → is_past c file_len v ≡ false → IsPlaced c file_len v (layout_of c v)
unfolding IsPlaced element_at steps_of end_of AreIndexes
record_placed c file_len v positive is_rec past = λ file is len within. go file is len (subst (λ ns. AreIndexes ns is) sizes within)
  where
    ids : List ℕ
    ids = element_dimensions c v

    of_records : is_record c.dimensions ids ≡ true
    of_records = element_record c v ∙ is_rec

    sizes : element_sizes c v ≡ c.records ∷ inner (lengths c.dimensions ids)
    sizes = record_sizes c ids of_records positive

    step : ℕ
    step = record_size c.dimensions c.variables

    p : ℕ
    p = part c.dimensions v.dimensions v.external_type

    w : ℕ
    w = element_size c v

    ns : List ℕ
    ns = inner (lengths c.dimensions ids)

    steps : steps_of c v ≡ step ∷ row_steps w ns
    steps = rw of_records refl

    go : (file is : List ℕ) → length file ≡ file_len → AreIndexes (c.records ∷ ns) is
        → (place (layout_of c v) is + w ≤ file_len) × (slice file (place (layout_of c v) is) w ≡ element_at c file v is)
    go file [] len h = absurd h
    go file (k ∷ is) len h =
        let some : c.records ≢ 0 = λ e. absurd (below_none k c.records h.0 e) in
        let end : v.begin + (c.records - 1) * step + p ≤ file_len = rw is_rec at (ends_within c file_len v past (λ e. some)) in
        let one : v.begin + k * step + p ≤ file_len = record_fits k c.records step v.begin p file_len h.0 end in
        let enough : (v.begin + k * step) + p ≤ length file = omega (arith, one, len) in
        let bytes = record_slice c file v k in
        let count : length bytes ≡ product ns * w = length-slice file (v.begin + k * step) p enough ∙ sym (element_part c v) in
        let chop = chop_is ns is bytes w count h.1 in
        let far : distance (steps_of c v) (k ∷ is) ≡ k * step + distance (row_steps w ns) is = ap (λ ss. distance ss (k ∷ is)) steps in
        let short : distance (row_steps w ns) is + w ≤ p = omega (arith, chop.0, length-slice file (v.begin + k * step) p enough) in
        let same : v.begin + distance (steps_of c v) (k ∷ is) ≡ (v.begin + k * step) + distance (row_steps w ns) is = omega (arith, far) in (
          omega (arith, same, short, enough, len),
          rw (same, is_rec) (sym (chop.1 ∙ slice_slice file (v.begin + k * step) p (distance (row_steps w ns) is) w short)),
        )
      where
        below_none : (k n : ℕ) → k < n → n ≡ 0 → ⊥
        below_none k n lt e = omega (arith, lt, e)

pub is_placed : (c : Contents) (file_len : ℕ) (v : Variable) → ArePositive (inner (lengths c.dimensions (element_dimensions c v))) → is_past c file_len v ≡ false → IsPlaced c file_len v (layout_of c v)
is_placed c file_len v positive past = go (is_record c.dimensions v.dimensions) refl
  where
    go : (b : Bool) → is_record c.dimensions v.dimensions ≡ b → IsPlaced c file_len v (layout_of c v)
    go true e = record_placed c file_len v positive e past
    go false e = plain_placed c file_len v positive e past

-- ---- each variable of a sound header

first_no : (b : Bool) (k : ℕ) (r : Option ℕ) → cond b (Some k) r ≡ None → (b ≡ false) × (r ≡ None)
first_no true k r e = absurd cc
first_no false k r e = (refl, e)

none_past : {X : Type 0} (p : X → Bool) (k : ℕ) (xs : List X) (i : ℕ) (x : X) → position_from p k xs ≡ None → slice_get xs i ≡ Some x → p x ≡ false
none_past p k [] i x none at = absurd cc
none_past {X} p k (y ∷ ys) zero x none at = subst (λ z. p z ≡ false) (some_is y x at) (first_no (p y) k (position_from p (k + 1) ys) none).0
  where
    some_is : (y x : X) → Path (Option X) (Some y) (Some x) → y ≡ x
    some_is y x q = cc
none_past p k (y ∷ ys) (suc i) x none at = none_past p (k + 1) ys i x (first_no (p y) k (position_from p (k + 1) ys) none).1 at

pub turn_positive : (c : Contents) (before vs : List Variable) (i : ℕ) (v : Variable) → InTurn (IsVariable c.dimensions) before vs → slice_get vs i ≡ Some v
    → ArePositive (inner (lengths c.dimensions (element_dimensions c v)))
unfolding InTurn
turn_positive c before [] i v h at = absurd cc
turn_positive c before (w ∷ vs) zero v h at = subst (λ x. ArePositive (inner (lengths c.dimensions (element_dimensions c x)))) (some_is w v at) (element_positive c before w h.0)
  where
    some_is : (y x : Variable) → Path (Option Variable) (Some y) (Some x) → y ≡ x
    some_is y x q = cc
turn_positive c before (w ∷ vs) (suc i) v h at = turn_positive c (before ++ w ∷ []) vs i v h.1 at

pub sound_placed : (c : Contents) (file_len i : ℕ) (v : Variable) → IsSound c → past_end c file_len ≡ None → slice_get c.variables i ≡ Some v → IsPlaced c file_len v (layout_of c v)
unfolding past_end
sound_placed c file_len i v h none at = is_placed c file_len v (turn_positive c [] c.variables i v h.variables at) (none_past (is_past c file_len) 1 c.variables i v none at)

pub leaf_placed : (c : Contents) (file_len leaf : ℕ) → IsSound c → past_end c file_len ≡ None → (o : Option Layout) → o ≡ option_map (layout_of c) (leaf_variable c leaf) → LeafIsPlaced c file_len leaf o
unfolding leaf_variable LeafIsPlaced
leaf_placed c file_len leaf h none o is = go (leaf_in (leaves_from c 0 c.variables) leaf) refl is
  where
    go : (found : Option ℕ) → leaf_in (leaves_from c 0 c.variables) leaf ≡ found → o ≡ option_map (layout_of c) (option_and_then (slice_get c.variables) found)
        → MatchOption o (Unit {0}) (λ l. (v : Variable) × (option_and_then (slice_get c.variables) (leaf_in (leaves_from c 0 c.variables) leaf) ≡ Some v) × IsPlaced c file_len v l)
    go None e q = rw q tt
    go (Some k) e q = at (slice_get c.variables k) refl q
      where
        at : (x : Option Variable) → slice_get c.variables k ≡ x → o ≡ option_map (layout_of c) x
            → MatchOption o (Unit {0}) (λ l. (v : Variable) × (option_and_then (slice_get c.variables) (leaf_in (leaves_from c 0 c.variables) leaf) ≡ Some v) × IsPlaced c file_len v l)
        at None x q = rw q tt
        at (Some v) x q = rw q (v, ap (option_and_then (slice_get c.variables)) e ∙ x, sound_placed c file_len k v h none x)
