-- Fields that are kept as one text and the places where each ends.
use Rattle.std.proofs.Common.{◌≡◌, ◌≤◌, ◌<◌, ◌+◌, ◌-◌, ℕ, zero, suc, List, [], ◌∷◌, ◌++◌, Some, length, take, drop, get_or, refl, ap, arith, ◌∙◌}
use Rattle.std.specs.Prelude.{slice_get}
use Rattle.std.proofs.lemmas.List.{drop-append-le, length-drop, drop_all, take-append-le, take_all}
use Rattle.std.proofs.Common.{length-take}
use Rattle.csv_source.specs.inner.Held.{AreEnds, begin_of, fields_from, total, total_all}

pub ends-le : (start : ℕ) (ends : List ℕ) (last : ℕ) → AreEnds start ends last → start ≤ last
unfolding AreEnds
ends-le start [] last h = omega (arith, h)
ends-le start (end ∷ ends) last h = omega (arith, h.0, ends-le end ends last h.1)

-- a field more
pub ends-push : (start : ℕ) (ends : List ℕ) (last more : ℕ) → AreEnds start ends last → last ≤ more → AreEnds start (ends ++ more ∷ []) more
unfolding AreEnds
ends-push start [] last more h le = (omega (arith, h, le), refl)
ends-push start (end ∷ ends) last more h le = (h.0, ends-push end ends last more h.1 le)

pub fields-push : (start : ℕ) (ends text field : List ℕ) (more : ℕ) → AreEnds start ends (length text) → more ≡ length text + length field
    → fields_from start (ends ++ more ∷ []) (text ++ field) ≡ fields_from start ends text ++ field ∷ []
unfolding fields_from AreEnds
fields-push start [] text field more h is =
    let whole : drop start (text ++ field) ≡ field = drop-append-le start text field (omega (arith, h)) ∙ ap (λ xs. xs ++ field) (drop_all start text (omega (arith, h))) in
    rw whole (ap (λ f. f ∷ []) (take_all (more - start) field (omega (arith, h, is))))
fields-push start (end ∷ ends) text field more h is =
    let le = ends-le end ends (length text) h.1 in
    let front : drop start (text ++ field) ≡ drop start text ++ field = drop-append-le start text field (omega (arith, h.0, le)) in
    let part : take (end - start) (drop start text ++ field) ≡ take (end - start) (drop start text) =
    take-append-le (end - start) (drop start text) field (omega (arith, h.0, le, length-drop start text)) in
    rw (front, part, fields-push end ends text field more h.1 is) refl

-- the field at a place
pub field-at : (start : ℕ) (ends text : List ℕ) (i : ℕ) → AreEnds start ends (length text) → i < length ends
    → (slice_get (fields_from start ends text) i ≡ Some (take (get_or ends i 0 - begin_of start ends i) (drop (begin_of start ends i) text)))
    × (begin_of start ends i ≤ get_or ends i 0) × (get_or ends i 0 ≤ length text)
unfolding fields_from AreEnds begin_of
field-at start [] text i h lt = absurd (omega (arith, lt))
field-at start (end ∷ ends) text zero h lt = (refl, h.0, ends-le end ends (length text) h.1)
field-at start (end ∷ ends) text (suc i) h lt = field-at end ends text i h.1 (omega (arith, lt))

pub begin-first : (ends : List ℕ) → begin_of 0 ends 0 ≡ 0
unfolding begin_of
begin-first ends = refl

pub begin-later : (start : ℕ) (ends : List ℕ) (i : ℕ) → i < length ends → begin_of start ends (suc i) ≡ get_or ends i 0
unfolding begin_of
begin-later start [] i lt = absurd (omega (arith, lt))
begin-later start (end ∷ ends) zero lt = refl
begin-later start (end ∷ ends) (suc i) lt = begin-later end ends i (omega (arith, lt))

pub index-there : {X : Type 0} (xs : List X) (i : ℕ) (x : X) → slice_get xs i ≡ Some x → i < length xs
index-there [] i x is = cc is
index-there (y ∷ ys) zero x is = omega arith
index-there (y ∷ ys) (suc i) x is = omega (arith, index-there ys i x is)

-- as many as places
pub fields-length : (start : ℕ) (ends text : List ℕ) → length (fields_from start ends text) ≡ length ends
unfolding fields_from
fields-length start [] text = refl
fields-length start (end ∷ ends) text = ap suc (fields-length end ends text)

pub total-append : (xs ys : List (List ℕ)) → total (xs ++ ys) ≡ total xs + total ys
unfolding total
total-append [] ys = omega arith
total-append (x ∷ xs) ys = omega (arith, total-append xs ys)

pub total-take : (xs : List (List ℕ)) (i : ℕ) → total (take i xs) ≤ total xs
unfolding total
total-take xs zero = omega arith
total-take [] (suc i) = omega arith
total-take (x ∷ xs) (suc i) = omega (arith, total-take xs i)

pub total-one : (x : List ℕ) → total (x ∷ []) ≡ length x
unfolding total
total-one x = omega arith

pub total-none : total [] ≡ 0
unfolding total
total-none = refl

pub total_all-append : (xs ys : List (List (List ℕ))) → total_all (xs ++ ys) ≡ total_all xs + total_all ys
unfolding total_all
total_all-append [] ys = omega arith
total_all-append (x ∷ xs) ys = omega (arith, total_all-append xs ys)

pub total_all-one : (x : List (List ℕ)) → total_all (x ∷ []) ≡ total x
unfolding total_all
total_all-one x = omega arith

pub total_all-cons : (x : List (List ℕ)) (xs : List (List (List ℕ))) → total_all (x ∷ xs) ≡ total x + total_all xs
unfolding total_all
total_all-cons x xs = refl

-- no field is longer than the text
pub field-short : (ends text field : List ℕ) (i : ℕ) → AreEnds 0 ends (length text) → slice_get (fields_from 0 ends text) i ≡ Some field → length field ≤ length text
field-short ends text field i h is =
    let inside : i < length ends = omega (arith, index-there (fields_from 0 ends text) i field is, fields-length 0 ends text) in
    let (piece, order, within) = field-at 0 ends text i h inside in
    let same : field ≡ take (get_or ends i 0 - begin_of 0 ends i) (drop (begin_of 0 ends i) text) = cc (is, piece) in
    rw same (omega (arith, length-take (get_or ends i 0 - begin_of 0 ends i) (drop (begin_of 0 ends i) text), length-drop (begin_of 0 ends i) text))
